-- The first workload that fails without a group of rules, and its first crash then.
use Rattle.std.proofs.Common.{◌≡◌, ℕ, ◌<◌, List, Bool, length, subst, sym, refl}
use Rattle.std.specs.Prelude.{None}
use Rattle.std.specs.List.{All}
use Rattle.crash_model.specs.Checker.{Demands, AreDemands}
use Rattle.crash_model.specs.declared.patches.Patch.{Patch}
use Rattle.crash_model.specs.declared.steps.Step.{Step}
use Rattle.enough_deciding.specs.Rules.{IsGraphBy}
use Rattle.question_model.specs.Enough.{rules_but}
use Rattle.question_model.specs.EnoughFor.{FailsBy}
use Rattle.question_model.specs.Sequences.{IsFirstSequence}
use Rattle.question_model.specs.Workloads.{Search, Fails, HasPatches, steps_at, workload_at}
use Rattle.traced_patches.specs.Traced.{TracedPatches}
use Rattle.pool_judging.specs.Judging.{SomeFails}
use Rattle.pool_judging.specs.Traces.{IsTraceOf, IsTraced}
use Rattle.pool_judging.proofs.Verdicts.{of_each}
use Rattle.pool_judging.proofs.Workloads.{patches_but}
use Rattle.report.specs.FirstCrashes.{IsFirstIfAny, IsFirstOfAll}
use Rattle.report.specs.OnChoices.{rules_at}
use Rattle.report.specs.OnPools.{IsNeedOfSearch, search_but}
use Rattle.report.specs.Found.{Need}
use Rattle.report.proofs.Firsts.{none_fails}

module _ (s : Search) (group : ℕ) (places : List ℕ)
    (first : IsFirstSequence (FailsBy s (rules_but s.rules group)) places) where
  -- its steps are those of the pool
  pub below : All (λ place. place < length s.pool) places
  below = first.among.0.0.among

  -- none of its steps is refused
  pub traced : (steps : List Step) → steps ≡ workload_at s places → ∥ IsTraced s steps ∥₁
  traced steps are = ∣ subst (IsTraced s) (sym are) first.among.0.0.accepted ∣₁

  -- its patches without the group
  pub patches_of : (steps others : List Step) (t : TracedPatches) (demands : Demands) (patches : List Patch)
      → steps ≡ workload_at s places → others ≡ workload_at s places → IsTraceOf s steps t
      → AreDemands s.asked s.base others demands → IsGraphBy (rules_but t.rules group) s.base t patches
      → HasPatches (search_but s group) places demands patches
  patches_of steps others t demands patches are also is demanded by =
      patches_but s places steps others t demands are also is demanded group patches by

  module _ (demands : Demands) (patches : List Patch)
      (has : HasPatches (search_but s group) places demands patches) where
    -- a set of its patches without the group fails
    some_fails : SomeFails demands s.base patches
    some_fails = by first.among.1
      where
        by : Fails (search_but s group) places → SomeFails demands s.base patches
        by (other, those, too, some) = of_each (search_but s group) places other demands those patches too has
            (λ k ps. SomeFails k s.base ps) some

    -- so there is a first crash
    pub some_first : (explain : Bool)
        → ¬ (IsFirstIfAny (record { explain = explain; demands = demands }) s.base patches None)
    some_first explain none =
        none_fails (record { explain = explain; demands = demands }) s.base patches none some_fails.0 some_fails.1

    -- what is reported of the group
    pub need_of : (explain : Bool) (need : Need) → need.group ≡ group → need.choices ≡ rules_at s.rules group
        → need.steps ≡ steps_at s.pool places
        → IsFirstOfAll (record { explain = explain; demands = demands }) s.base patches need.first
        → IsNeedOfSearch s explain need
    need_of explain need same choices steps is = record {
      places = places;
      earliest = subst (λ (k : ℕ). IsFirstSequence (FailsBy s (rules_but s.rules k)) places) (sym same) first;
      choices = subst (λ (k : ℕ). need.choices ≡ rules_at s.rules k) (sym same) choices;
      steps = steps;
      demands = demands;
      patches = patches;
      traced = subst (λ (k : ℕ). HasPatches (search_but s k) places demands patches) (sym same) has;
      first = is;
    }
