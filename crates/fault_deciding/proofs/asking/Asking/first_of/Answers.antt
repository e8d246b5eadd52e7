use Rattle.std.proofs.Common.{get_or}
use Rattle.std.proofs.lemmas.List.{get_or_default}
use Rattle.crash_model.specs.declared.fault.Fault.TheVariants.{Dangling}
use Rattle.fault_deciding.specs.Asked.{HasFaultOf}
use Rattle.fault_deciding.proofs.Firsts.{none_with}
use Rattle.fault_deciding.proofs.Orders.{first_decided, none_more, none_at_all}
use Rattle.fault_deciding.proofs.asking.Asking.first_of.Goals as goal

pub returns-in-Some : goal.returns-in-Some
returns-in-Some g c =
    let self = c.args.self.now in
    let faults = c.args.faults.now in
    let at = c.loop-fault.fault-index in
    first_decided (HasFaultOf self.demands.now self.chains.now) faults at (get_or faults at (Dangling 0 0 0))
    c.in-Some.first
    c.requires.all c.requires.ordered c.loop-fault-test.true
    (get_or_default faults at (get_or faults at (Dangling 0 0 0)) (Dangling 0 0 0) c.loop-fault-test.true)
    c.loop-fault.invariant c.in-Some.ensures

pub loop-fault-preserved : goal.loop-fault-preserved
loop-fault-preserved g c =
    let self = c.args.self.now in
    none_more (HasFaultOf self.demands.now self.chains.now) c.args.faults.now c.loop-fault.fault-index (Dangling 0 0 0)
    c.loop-fault-test.true c.loop-fault.invariant
    (none_with (HasFaultOf self.demands.now self.chains.now) _ c.first.result c.in_default.not-Some c.first.ensures)

pub returns : goal.returns
returns g c =
    let self = c.args.self.now in
    none_at_all (HasFaultOf self.demands.now self.chains.now) c.args.faults.now c.loop-fault.fault-index c.requires.all
    c.loop-fault.invariant c.loop-fault-test.false
