use Rattle.std.proofs.Common.{◌≡◌, ℕ, Bool, true, false, ◌&&◌, arith, tests, subst}
use Rattle.std.specs.Prelude.{◌==◌}
use Rattle.crash_model.specs.Disk.{Disk}
use Rattle.crash_model.specs.Patches.{image_of}
use Rattle.crash_model.specs.Layout.{kind_of, pointer_of}
use Rattle.crash_model.specs.Strict.{is_reached, lacks_block}
use Rattle.known_bytes.specs.Reading.{InEachDisk, disk_of}
use Rattle.known_bytes.proofs.Answered.{known_in}
use Rattle.known_bytes.proofs.disk.KnownDisk.lacks_block.Goals as goal

bare : (k p : ℕ) (r : Bool) → (k == 2 && p == 0) ≡ true → r ≡ (r && (k == 2) && (p == 0))
bare k p r h = grind (arith, tests)

not_bare : (k p : ℕ) (r : Bool) → (k == 2 && p == 0) ≡ false → (r && (k == 2) && (p == 0)) ≡ false
not_bare k p r h = grind (arith, tests)

pub returns-then-not-is_bare : goal.returns-then-not-is_bare
returns-then-not-is_bare g c = λ set m.
    let r = c.args.self.now in
    let i = c.args.inode in
    let d : Disk = disk_of r (image_of r.family.base r.family.patches set) in
    let none = subst (λ (b : Bool). InEachDisk r (λ d. (kind_of d i == 2 && pointer_of d i 0 == 0) ≡ b))
    c.if-not-is_bare.true c.in_ok-is_bare.ensures in
    not_bare (kind_of d i) (pointer_of d i 0) (is_reached d i) (none set m)

pub returns : goal.returns
returns g c =
    let r = c.args.self.now in
    let i = c.args.inode in
    let all = subst (λ (b : Bool). InEachDisk r (λ d. (kind_of d i == 2 && pointer_of d i 0 == 0) ≡ b))
    c.if-not-is_bare.false c.in_ok-is_bare.ensures in
    known_in r (λ d. is_reached d i) (λ d. lacks_block d i) c.is_reached.result
    (λ set m.
    let d : Disk = disk_of r (image_of r.family.base r.family.patches set) in
    bare (kind_of d i) (pointer_of d i 0) (is_reached d i) (all set m))
    c.is_reached.ensures
