use Rattle.std.proofs.Common.{sym, subst}
use Rattle.fault_deciding.specs.Asked.{AreAllOf, HasFaultOf}
use Rattle.fault_deciding.proofs.decider.Decider.any_fails.Goals as goal

pub any_of-requires : goal.any_of-requires
any_of-requires g c =
    subst (AreAllOf (HasFaultOf c.args.self.now.demands.now c.in_ok-chains.chains)) (sym c.deref-2.ensures.value)
    c.in_ok-candidates.ensures.all
