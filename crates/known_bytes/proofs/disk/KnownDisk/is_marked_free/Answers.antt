use Rattle.std.proofs.Common.{ℕ, ◌&&◌, subst, ◌∙◌}
use Rattle.std.specs.Prelude.{◌==◌}
use Rattle.crash_model.specs.Disk.{byte}
use Rattle.crash_model.specs.Patches.{image_of}
use Rattle.crash_model.specs.Layout.{pointer_of, map_of}
use Rattle.crash_model.specs.Faults.{is_marked_free, names_block}
use Rattle.known_bytes.specs.Reading.{IsKnown, disk_of}
use Rattle.known_bytes.proofs.Answered.{known_as}
use Rattle.known_bytes.proofs.FaultTests.{marked_free_is}
use Rattle.known_bytes.proofs.FaultTests.{none_tame}
use Rattle.known_bytes.proofs.disk.KnownDisk.is_marked_free.Goals as goal

pub returns-then-not-is_data : goal.returns-then-not-is_data
returns-then-not-is_data g c = λ set m.
    let r = c.args.self.now in
    let d = disk_of r (image_of r.family.base r.family.patches set) in
    none_tame d c.args.inode c.args.slot c.args.block (c.is_data.ensures.value set m ∙ c.if-not-is_data.true)
    (λ b. map_of d b == 0)

pub returns : goal.returns
returns g c =
    let r = c.args.self.now in
    let i = c.args.inode in
    let s = c.args.slot in
    let b = c.args.block in
    let free = subst (λ (n : ℕ). IsKnown r (λ d. byte d 1 n == 0) c.byte_is.result) c.from.ensures c.byte_is.ensures in
    known_as r (λ d. names_block d i s b && map_of d b == 0) (λ d. is_marked_free d i s && pointer_of d i s == b)
    c.both.result (λ set. marked_free_is (disk_of r (image_of r.family.base r.family.patches set)) i s b)
    (c.both.ensures r (λ d. names_block d i s b) (λ d. map_of d b == 0) c.names-names.ensures free)
