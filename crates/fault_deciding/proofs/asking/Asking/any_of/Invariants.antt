use Rattle.fault_deciding.specs.Asked.{HasFaultOf}
use Rattle.fault_deciding.proofs.Orders.{NoneBefore}
use Rattle.fault_deciding.proofs.asking.Asking.any_of.Given as goal

abbrev pub invariant-loop-fault : goal.invariant-loop-fault
invariant-loop-fault g l = NoneBefore (HasFaultOf l.self.demands.now l.self.chains.now) l.faults l.fault-index
