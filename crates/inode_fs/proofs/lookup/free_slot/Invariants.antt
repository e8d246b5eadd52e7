use Rattle.std.proofs.Common.{◌≡◌, ℕ, ◌<◌, false}
use Rattle.crash_model.specs.Plan.{is_free_slot}
use Rattle.inode_fs.proofs.lookup.free_slot.Given as goal

abbrev pub invariant-loop-s : goal.invariant-loop-s
invariant-loop-s g l = (k : ℕ) → k < l.s → is_free_slot l.image l.inode k ≡ false
