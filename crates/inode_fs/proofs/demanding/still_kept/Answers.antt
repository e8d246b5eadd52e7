use Rattle.std.proofs.Common.{ℕ, Bool, ◌&&◌, sym, ap, ◌∙◌, subst}
use Rattle.std.specs.Prelude.{Option, Some, bit_and}
use Rattle.patch_sets.specs.Sets.{has}
use Rattle.inode_fs.specs.Demanding.{AreStillKept}
use Rattle.inode_fs.proofs.Live.{has-and}
use Rattle.inode_fs.proofs.demanding.still_kept.Goals as goal

pub returns-in-Some : goal.returns-in-Some
returns-in-Some g c =
    let kept = c.in-Some.kept in
    let live = c.live_inodes.result in
    subst (λ (k : Option ℕ). AreStillKept k c.args.disk.now (Some (bit_and kept live))) (sym c.in-Some.is)
    (λ i. has-and kept live i ∙ ap (λ (b : Bool). has kept i && b) (c.live_inodes.ensures i))
