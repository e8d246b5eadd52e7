use Rattle.fs_check.proofs.Reaching.{Reaching}
use Rattle.fs_check.proofs.strict.reached.Given as goal

abbrev pub invariant-loop-dir : goal.invariant-loop-dir
invariant-loop-dir g l = Reaching l.image l.reached l.unread

abbrev pub decreases-loop-dir : goal.decreases-loop-dir
decreases-loop-dir g l = l.unread
