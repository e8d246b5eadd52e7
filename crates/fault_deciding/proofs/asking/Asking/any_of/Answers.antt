use Rattle.std.proofs.Common.{◌≡◌, true, false}
use Rattle.crash_model.specs.declared.fault.Fault.TheVariants.{Dangling}
use Rattle.fault_deciding.specs.Asked.{HasFaultOf}
use Rattle.fault_deciding.proofs.Firsts.{some_fault}
use Rattle.fault_deciding.proofs.Orders.{none_more, none_at_all}
use Rattle.fault_deciding.proofs.asking.Asking.any_of.Goals as goal

pub loop-fault-preserved : goal.loop-fault-preserved
loop-fault-preserved g c =
    let self = c.args.self.now in
    none_more (HasFaultOf self.demands.now self.chains.now) c.args.faults.now c.loop-fault.fault-index (Dangling 0 0 0)
    c.loop-fault-test.true c.loop-fault.invariant
    (λ set its. let no : false ≡ true = c.if-any.ensures.1 (set, its) in cc)

pub returns : goal.returns
returns g c =
    let self = c.args.self.now in (
      λ yes. let no : false ≡ true = yes in absurd (cc),
      λ some.
          let fault = some_fault self.demands.now self.chains.now some.0 some.1 in
          absurd (none_at_all (HasFaultOf self.demands.now self.chains.now) c.args.faults.now c.loop-fault.fault-index
          c.requires
          c.loop-fault.invariant c.loop-fault-test.false fault.0 some.0 fault.1),
    )
