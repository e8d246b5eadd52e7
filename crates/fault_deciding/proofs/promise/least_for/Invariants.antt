use Rattle.std.proofs.Common.{take}
use Rattle.fault_deciding.specs.OfSets.{IsLeastFor}
use Rattle.fault_deciding.proofs.promise.least_for.Given as goal

abbrev pub invariant-loop-allowance : goal.invariant-loop-allowance
invariant-loop-allowance l = IsLeastFor (take l.allowance-index l.allowed) l.shows l.least
