use Rattle.std.proofs.Common.{◌≡◌, map, take}
use Rattle.std.specs.List.{All}
use Rattle.fault_deciding.specs.Asked.{HasFaultOf}
use Rattle.fault_deciding.specs.Trials.{fault_of, IsTried}
use Rattle.fault_deciding.proofs.asking.Asking.tried.Given as goal

abbrev pub invariant-loop-fault : goal.invariant-loop-fault
invariant-loop-fault g l = record {
  faults : map fault_of l.trials.items ≡ take l.fault-index l.candidates;
  tried : All (IsTried (HasFaultOf l.self.demands.now l.self.chains.now)) l.trials.items;
}
