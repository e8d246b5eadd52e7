use Rattle.std.proofs.Common.{◌≡◌, ℕ, List, [], true, false, arith, refl, sym, subst, ◌∙◌}
use Rattle.std.proofs.lemmas.List.Sorted.{IsPermutation-refl}
use Rattle.std.proofs.lemmas.Result.{IfOk-weaker}
use Rattle.crash_model.specs.Checker.{IsFailingUnder}
use Rattle.crash_model.specs.FirstSets.{HasFault}
use Rattle.crash_model.specs.declared.fault.Fault.{Fault}
use Rattle.question_model.specs.Decided.{AreDecided}
use Rattle.question_model.specs.declared.decided_fault.DecidedFault.{DecidedFault}
use Rattle.known_bytes.specs.Chains.{Change}
use Rattle.fault_deciding.specs.declared.sharing.Trial.{Trial}
use Rattle.fault_deciding.specs.Asked.{AreAllOf, HasFaultOf}
use Rattle.fault_deciding.specs.Trials.{AreFound}
use Rattle.fault_deciding.proofs.Whole.{decided}
use Rattle.fault_deciding.proofs.decider.Decider.faults_alone.Goals as goal

-- no fault, where no set has one
none_decided : (has : Fault → ℕ → Type 0) (faults : List DecidedFault) → faults ≡ []
    → ((fault : Fault) (set : ℕ) → has fault set → ⊥) → AreDecided has faults
none_decided has faults empty none = subst (AreDecided has) (sym empty) (record {
  ordered = λ i j d lt within. absurd (omega arith);
  each = λ k d within. absurd (omega arith);
  every = λ fault set its. absurd (none fault set its);
})

pub returns : goal.returns
returns g c =
    let demands = c.args.self.now.demands.now in
    let candidates = c.in_ok-candidates.candidates.items in
    let trials = c.in_ok-trials.trials.items in
    let sorted = c.sort_trials.new.trials.items in
    IfOk-weaker c.found.result _ _
    (λ faults found. subst (λ (ch : Change). AreDecided (HasFaultOf demands ch) faults.items) c.in_ok-chains.ensures
    (decided (HasFaultOf demands c.in_ok-chains.chains) candidates trials trials trials sorted
    c.in_ok-candidates.ensures.all (c.in_ok-trials.ensures.faults ∙ c.deref-3.ensures.value)
    (IsPermutation-refl trials) refl (λ k d inside. refl) c.in_ok-trials.ensures.tried c.sort_trials.ensures.same
    faults.items (subst (λ (ts : List Trial). AreFound ts faults.items) c.deref-4.ensures.value found)))
    c.found.ensures

pub any_of-requires : goal.any_of-requires
any_of-requires g c =
    subst (AreAllOf (HasFaultOf c.args.self.now.demands.now c.in_ok-chains.chains)) (sym c.deref-2.ensures.value)
    c.in_ok-candidates.ensures.all

pub returns-then-not-any_of : goal.returns-then-not-any_of
returns-then-not-any_of g c =
    let demands = c.args.self.now.demands.now in
    none_decided (HasFault demands c.args.self.now.base.now c.args.self.now.graph.now) _
    c.new-then-not-any_of.ensures.items (λ fault set its.
    let failing = subst (λ (ch : Change). IsFailingUnder demands ch.base ch.patches set) (sym c.in_ok-chains.ensures)
    its.failing in
    let no : false ≡ true = sym c.if-not-any_of.true ∙ c.any_of.ensures.1 (set, failing) in cc)
