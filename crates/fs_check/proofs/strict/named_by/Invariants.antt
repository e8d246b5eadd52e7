use Rattle.fs_check.proofs.Reaching.{AreNamed}
use Rattle.fs_check.proofs.strict.named_by.Given as goal

abbrev pub invariant-loop-k : goal.invariant-loop-k
invariant-loop-k g l = AreNamed l.image l.dir l.k l.named
