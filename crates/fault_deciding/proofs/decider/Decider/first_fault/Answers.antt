use Rattle.std.proofs.Common.{sym, subst, List}
use Rattle.std.specs.List.{Contains}
use Rattle.std.proofs.lemmas.List.Sorted.{Contains-permutation}
use Rattle.crash_model.specs.declared.fault.Fault.{Fault}
use Rattle.known_bytes.specs.Chains.{Change}
use Rattle.fault_deciding.specs.Asked.{IsFirstFault, HasFaultOf}
use Rattle.fault_deciding.proofs.decider.Decider.first_fault.Goals as goal

pub first_of-requires-clause-all : goal.first_of-requires-clause-all
first_of-requires-clause-all g c = λ fault set its.
    subst (λ (fs : List Fault). Contains fs fault) (sym c.deref-2.ensures.value)
    (Contains-permutation c.in_ok-candidates.candidates.items c.sort_faults.new.faults.items fault
    c.sort_faults.ensures.same (c.in_ok-candidates.ensures.all fault set its))

pub returns : goal.returns
returns g c = subst (λ (ch : Change). IsFirstFault (HasFaultOf c.args.self.now.demands.now ch) c.first_of.result)
    c.in_ok-chains.ensures c.first_of.ensures
