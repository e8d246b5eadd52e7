use Rattle.std.proofs.Common.{List, sym, subst}
use Rattle.std.specs.List.{Contains}
use Rattle.crash_model.specs.declared.showing.ShownSlot.{ShownSlot}
use Rattle.crash_model.specs.Patches.{image_of}
use Rattle.crash_model.specs.Paths.{slot_shown}
use Rattle.known_bytes.specs.Reading.{disk_of}
use Rattle.known_bytes.proofs.disk.KnownDisk.file_allowed.Goals as goal

pub returns : goal.returns
returns g c = λ allowed set m.
    let r = c.args.self.now in
    let d = disk_of r (image_of r.family.base r.family.patches set) in
    let first = slot_shown d c.args.inode 0 in
    let second = slot_shown d c.args.inode 1 in
    let third = slot_shown d c.args.inode 2 in
    let fourth = slot_shown d c.args.inode 3 in
    c.are_allowed.ensures allowed first second third fourth
    (subst (λ (xs : List ShownSlot). Contains xs first) (sym c.as_slice.ensures.value) (c.in-Some.ensures set m))
    (subst (λ (xs : List ShownSlot). Contains xs second) (sym c.as_slice-2.ensures.value)
    (c.in-Some-slot_list.ensures set m))
    (subst (λ (xs : List ShownSlot). Contains xs third) (sym c.as_slice-3.ensures.value)
    (c.in-Some-slot_list-2.ensures set m))
    (subst (λ (xs : List ShownSlot). Contains xs fourth) (sym c.as_slice-4.ensures.value)
    (c.in-Some-slot_list-3.ensures set m))
