-- What is found of the trace of a workload is found of the workload.
use Rattle.std.proofs.Common.{◌≡◌, ℕ, ◌<◌, List, length, get_or, inl, inr, refl, subst, sym, ◌∙◌}
use Rattle.std.specs.Prelude.{◌↔◌, Option, Result, Ok, Err, Bool, IsTrue}
use Rattle.std.specs.List.{All}
use Rattle.std.proofs.Math.Logic.{∥∥₁_elim, ∥∥₁_map}
use Rattle.crash_model.specs.Checker.{Demands, AreDemands}
use Rattle.crash_model.specs.Trace.{trace_from}
use Rattle.crash_model.specs.Tracing.{Tracing, trace_start}
use Rattle.crash_model.specs.declared.patches.Patch.{Patch}
use Rattle.crash_model.specs.declared.refusals.TraceFault.{TraceFault}
use Rattle.crash_model.specs.declared.rules.Rule.{Rule}
use Rattle.crash_model.specs.declared.steps.Step.{Step}
use Rattle.question_model.specs.Enough.{rules_in, rules_but}
use Rattle.enough_rules.specs.Asked.{IsFound}
use Rattle.chosen_rules.specs.Sublists.{EnoughOf, all_of}
use Rattle.chosen_rules.proofs.Graphs.{less_or_not}
use Rattle.enough_deciding.specs.Rules.{IsGraphBy, tracing_of}
use Rattle.enough_deciding.proofs.Tracings.{one_tracing, same_enough}
use Rattle.question_model.specs.Workloads.{Search, Fails, HasPatches, workload_at, trace_at}
use Rattle.question_model.specs.EnoughFor.{IsPassing, search_with}
use Rattle.traced_patches.specs.Traced.{TracedPatches}
use Rattle.workload_search.specs.Asked.{IsEnoughAt}
use Rattle.workload_search.proofs.OneSequence.{found_at}
use Rattle.pool_judging.specs.Judging.{SomeFails}
use Rattle.pool_judging.proofs.Verdicts.{of_each}
use Rattle.pool_judging.specs.Traces.{IsTraced, IsTraceOf, IsAnswerBy}
use Rattle.pool_judging.proofs.Found.{found_alike}

-- steps that are traced are accepted
pub are_accepted : (s : Search) (steps : List Step) → ∥ IsTraced s steps ∥₁ → IsTraced s steps
are_accepted s steps traced = by (trace_from s.ordering (trace_start s.whole s.base) steps) traced
  where
    by : (r : Result Tracing TraceFault) → ∥ ((last : Tracing) × (r ≡ Ok last)) ∥₁ → (last : Tracing) × (r ≡ Ok last)
    by (Ok last) is = (last, refl)
    by (Err fault) is = absurd (∥∥₁_elim is (hlevel) (λ (last, e). no last fault e))
      where
        no : (last : Tracing) (fault : TraceFault) → ¬ (◌≡◌ {A = Result Tracing TraceFault} (Err fault) (Ok last))
        no last fault e = cc

-- steps that are traced are not refused
pub never_refused : (s : Search) (steps : List Step) (fault : TraceFault) → IsTraced s steps
    → ¬ (trace_from s.ordering (trace_start s.whole s.base) steps ≡ Err fault)
never_refused s steps fault traced refused =
    apart (trace_from s.ordering (trace_start s.whole s.base) steps) traced.0 traced.1 refused
  where
    apart : (answer : Result Tracing TraceFault) (last : Tracing) → answer ≡ Ok last → answer ≡ Err fault → ⊥
    apart answer last is also = cc

-- a workload that passes has steps of the pool, none of which is refused
module _ (s : Search) (places : List ℕ) (passing : ∥ IsPassing s places ∥₁) where
  pub below : All (λ place. place < length s.pool) places
  below k d within = elim (less_or_not (get_or places k d) (length s.pool)) [
    | inl less ↦ less
    | inr not ↦ absurd (∥∥₁_elim passing (hlevel) (λ is. not (is.0.among k d within)))
  ]

  pub traced : (made steps : List Step) → made ≡ workload_at s places → steps ≡ made → ∥ IsTraced s steps ∥₁
  traced made steps are same = ∥∥₁_map passing (λ is. subst (IsTraced s) (sym (same ∙ are)) is.0.accepted)

module _ (s : Search) (places : List ℕ) (steps others : List Step) (t : TracedPatches) (demands : Demands)
    (are : steps ≡ workload_at s places) (also : others ≡ workload_at s places) (is : IsTraceOf s steps t)
    (demanded : AreDemands s.asked s.base others demands) where
  run_at : trace_at s places ≡ Ok is.last
  run_at = subst (λ (xs : List Step). trace_from s.ordering (trace_start s.whole s.base) xs ≡ Ok is.last) are is.run

  demanded_at : AreDemands s.asked s.base (workload_at s places) demands
  demanded_at = subst (λ (xs : List Step). AreDemands s.asked s.base xs demands) also demanded

  abbrev one : Tracing
  one = tracing_of s.base t

  pub found_in_trace : (set : ℕ) (found : Option ℕ)
      → IsFound (all_of t.rules) (EnoughOf demands s.base (tracing_of s.base t) t.rules) set found
      → IsFound (all_of s.rules) (IsEnoughAt s places) set found
  found_in_trace set found it =
      let all = all_of s.rules in
      let by_rules : IsFound all (EnoughOf demands s.base one s.rules) set found =
      subst (λ (rules : List Rule). IsFound (all_of rules) (EnoughOf demands s.base one rules) set found) is.rules it in
      found_at s places is.last demands run_at demanded_at t.patches is.graph all set found
      (found_alike all (EnoughOf demands s.base one s.rules) (EnoughOf demands s.base is.last s.rules)
      (λ other. same_enough demands s.base t one is.last (rules_in s.rules other) (one_tracing s.base t) is.of_it)
      (λ other. same_enough demands s.base t is.last one (rules_in s.rules other) is.of_it (one_tracing s.base t))
      set found by_rules)

  -- the patches by all rules but those of a group are those of the workload in the search by these rules
  pub patches_but : (group : ℕ) (patches : List Patch) → IsGraphBy (rules_but t.rules group) s.base t patches
      → HasPatches (search_with s (rules_but s.rules group)) places demands patches
  patches_but group patches by = record {
    last = is.last;
    traced = run_at;
    graph = subst (λ (all : List Rule). IsGraphBy (rules_but all group) s.base t patches) is.rules by is.last is.of_it;
    demanded = demanded_at;
  }

  pub fails_by : (group : ℕ) (fails : Bool) → IsAnswerBy demands s.base t (rules_but t.rules group) fails
      → IsTrue fails ↔ Fails (search_with s (rules_but s.rules group)) places
  fails_by group fails by =
      let rest = search_with s (rules_but s.rules group) in
      let patches = by.patches in
      let has = patches_but group patches by.graph in (
        λ yes. (demands, patches, has, by.answer.0 yes),
        λ (other, those, too, some). by.answer.1 (of_each rest places other demands those patches too has
            (λ k ps. SomeFails k s.base ps) some),
      )
