use Rattle.std.proofs.Common.{◌≡◌, map, take}
use Rattle.fault_deciding.specs.Trials.{fault_of}
use Rattle.fault_deciding.proofs.sharing.untried.Given as goal

abbrev pub invariant-loop-fault : goal.invariant-loop-fault
invariant-loop-fault g l = map fault_of l.trials.items ≡ take l.fault-index l.faults
