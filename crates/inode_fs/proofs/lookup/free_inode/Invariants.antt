use Rattle.std.proofs.Common.{◌≡◌, ℕ, ◌<◌, false}
use Rattle.crash_model.specs.Plan.{is_free_inode}
use Rattle.inode_fs.proofs.lookup.free_inode.Given as goal

abbrev pub invariant-loop-i : goal.invariant-loop-i
invariant-loop-i g l = (k : ℕ) → k < l.i → is_free_inode l.image k ≡ false
