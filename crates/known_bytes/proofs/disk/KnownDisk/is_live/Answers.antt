use Rattle.std.proofs.Common.{◌≡◌, ◌<◌, ℕ, Bool, not, ◌&&◌, arith, tests}
use Rattle.std.specs.Prelude.{◌==◌, nat_lt}
use Rattle.crash_model.specs.Patches.{image_of}
use Rattle.crash_model.specs.Layout.{kind_of, is_live}
use Rattle.known_bytes.specs.Reading.{disk_of}
use Rattle.known_bytes.proofs.Answered.{known_as}
use Rattle.known_bytes.proofs.disk.KnownDisk.is_live.Goals as goal

small : (n : ℕ) (b : Bool) → n < 16 → b ≡ (nat_lt n 16 && b)
small n b h = grind (arith, tests)

pub returns : goal.returns
returns g c =
    let r = c.args.self.now in
    let inode = c.args.inode in
    let low : inode < 16 = omega arith in
    known_as r (λ d. not (kind_of d inode == 0)) (λ d. is_live d inode) c.negation.result
    (λ set. small inode (not (kind_of (disk_of r (image_of r.family.base r.family.patches set)) inode == 0)) low)
    (c.negation.ensures r (λ d. kind_of d inode == 0) c.kind_is.ensures)
