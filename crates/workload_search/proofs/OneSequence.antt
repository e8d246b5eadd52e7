-- Rules that are enough for the trace of a sequence are enough for the sequence.
use Rattle.std.proofs.Common.{◌≡◌, ℕ, List, subst}
use Rattle.std.specs.Prelude.{Option, Some, None, Result, Ok}
use Rattle.crash_model.specs.RuleFacts.{AreAmong}
use Rattle.crash_model.specs.Checker.{Demands, AreDemands, IsFailingUnder}
use Rattle.crash_model.specs.Trace.{IsGraphOf}
use Rattle.crash_model.specs.Tracing.{Tracing}
use Rattle.crash_model.specs.declared.patches.Patch.{Patch}
use Rattle.crash_model.specs.declared.refusals.TraceFault.{TraceFault}
use Rattle.crash_model.specs.declared.rules.Rule.{Rule}
use Rattle.rule_laws.proofs.Closed.{failing_under_more}
use Rattle.uniqueness_laws.proofs.Demands.{one_demands}
use Rattle.uniqueness_laws.proofs.OneGraph.{graph_one}
use Rattle.question_model.specs.Enough.{AreEnough, rules_in}
use Rattle.enough_rules.specs.Asked.{IsFound}
use Rattle.chosen_rules.specs.Sublists.{EnoughOf}
use Rattle.chosen_rules.proofs.Graphs.{graph_by_others}
use Rattle.question_model.specs.Workloads.{Search, Fails, workload_at, trace_at}
use Rattle.question_model.specs.EnoughFor.{search_with}
use Rattle.workload_search.specs.Asked.{IsEnoughAt}

one_ok : (r : Result Tracing TraceFault) (a b : Tracing) → r ≡ Ok a → r ≡ Ok b → a ≡ b
one_ok r a b e f = cc

-- what fails by more rules fails by fewer
pub fails_by_fewer : (s : Search) (few many : List Rule) (places : List ℕ) → AreAmong few many
    → Fails (search_with s many) places → Fails (search_with s few) places
fails_by_fewer s few many places among (demands, patches, is, (set, failing)) =
    let by = graph_by_others many few s.base is.last patches is.graph in (
      demands,
      by.0,
      record { last = is.last; traced = is.traced; graph = by.1; demanded = is.demanded },
      (
        set,
        failing_under_more few many s.base is.last by.0 patches set among by.1 is.graph demands failing,
      ),
    )

module _ (s : Search) (places : List ℕ) (last : Tracing) (demands : Demands) (traced : trace_at s places ≡ Ok last)
    (demanded : AreDemands s.asked s.base (workload_at s places) demands) where
  -- a sequence has one graph, and demands of its images that are determined
  pub enough_at : (rules : List Rule) → AreEnough demands s.base last rules → ¬ (Fails (search_with s rules) places)
  enough_at rules enough (other, others, is, (set, failing)) =
      let same : is.last ≡ last = one_ok (trace_at s places) is.last last is.traced traced in
      let alike : other ≡ demands =
      one_demands s.asked s.base (workload_at s places) other demands is.demanded demanded in
      let one : others ≡ enough.0 =
      graph_one rules s.base last others enough.0
      (subst (λ (t : Tracing). IsGraphOf rules s.base t others) same is.graph) enough.1 in
      enough.2 set (subst (λ (ps : List Patch). IsFailingUnder demands s.base ps set) one
      (subst (λ (k : Demands). IsFailingUnder k s.base others set) alike failing))

  module _ (patches : List Patch) (graph : IsGraphOf s.rules s.base last patches) where
    -- and the other way round
    pub enough_from : (rules : List Rule) → ¬ (Fails (search_with s rules) places) → AreEnough demands s.base last rules
    enough_from rules safe =
        let by = graph_by_others s.rules rules s.base last patches graph in (
          by.0,
          by.1,
          λ set failing. safe (
            demands,
            by.0,
            record { last = last; traced = traced; graph = by.1; demanded = demanded },
            (set, failing),
          ),
        )

    -- so what is found of the trace is found of the sequence
    pub found_at : (all set : ℕ) (found : Option ℕ) → IsFound all (EnoughOf demands s.base last s.rules) set found
        → IsFound all (IsEnoughAt s places) set found
    found_at all set None is = enough_at (rules_in s.rules set) is
    found_at all set (Some group) (in_each, misses) = (
      record {
        within = in_each.within;
        met = λ other within safe. in_each.met other within (enough_from (rules_in s.rules other) safe);
      },
      misses,
    )
