use Rattle.std.proofs.Common.{take}
use Rattle.pool_judging.specs.Firsts.{IsLeastOfKind}
use Rattle.pool_judging.proofs.firsts.first_of.Given as goal

abbrev pub invariant-loop-decided : goal.invariant-loop-decided
invariant-loop-decided l = IsLeastOfKind l.kind (take l.decided-index l.faults) l.least
