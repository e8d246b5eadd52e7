use Rattle.std.proofs.Common.{◌≡◌, ℕ, ◌<◌, false}
use Rattle.crash_model.specs.Plan.{is_free_block}
use Rattle.inode_fs.proofs.lookup.free_block.Given as goal

abbrev pub invariant-loop-b : goal.invariant-loop-b
invariant-loop-b g l = (k : ℕ) → k < l.b → is_free_block l.image k ≡ false
