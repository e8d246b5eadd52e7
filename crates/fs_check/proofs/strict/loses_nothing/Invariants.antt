use Rattle.fs_check.proofs.Reaching.{Walking}
use Rattle.fs_check.proofs.strict.loses_nothing.Given as goal

abbrev pub invariant-loop-next : goal.invariant-loop-next
invariant-loop-next g l = Walking l.image l.reached l.unread

abbrev pub decreases-loop-next : goal.decreases-loop-next
decreases-loop-next g l = l.unread
