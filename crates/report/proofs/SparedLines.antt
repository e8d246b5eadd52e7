-- Lines of which one is needed, and the first crash if all others wait.
use Rattle.std.proofs.Common.{◌≡◌, ℕ, List, [], subst, sym, ap, ◌∙◌}
use Rattle.std.specs.Prelude.{Bool, None}
use Rattle.patch_sets.specs.Ends.{IsDifference}
use Rattle.crash_model.specs.ChosenWaits.{tracing_waiting, demands_waiting}
use Rattle.crash_model.specs.Checker.{Demands, IsFailingUnder}
use Rattle.crash_model.specs.Trace.{IsGraphOf}
use Rattle.crash_model.specs.Tracing.{Tracing}
use Rattle.crash_model.specs.Waiting.{Wait}
use Rattle.question_model.specs.EnoughLines.{all_waits, AreEnoughLines}
use Rattle.enough_deciding.specs.Lines.{HasWaits, IsScriptWaiting, waits_of}
use Rattle.enough_deciding.specs.declared.lines.LineOracle.{LineOracle}
use Rattle.enough_deciding.specs.declared.lines.Waiting.{Waiting}
use Rattle.enough_deciding.proofs.WaitingLines.{one_waiting}
use Rattle.report.specs.Made.{Detail}
use Rattle.report.specs.Needed.{IsNeedByLines}
use Rattle.report.specs.FirstCrashes.{IsFirstIfAny, IsFirstOfAll}
use Rattle.report.specs.OnChoices.{lines_at}
use Rattle.report.specs.Found.{Need}
use Rattle.report.proofs.Firsts.{none_fails}

abbrev pub detail_by : Bool → Demands → Detail
detail_by explain demands = record { explain = explain; demands = demands }

module _ {A : Type 0} (explain : Bool) (o : LineOracle A) (script : Waiting A) where
  -- the patches if only the lines of a set wait
  pub graph_waiting : (rest : ℕ) → IsScriptWaiting o.demands.now o.base.now o.traced.now rest script
      → IsGraphOf o.traced.now.rules o.base.now (tracing_waiting rest (waits_of o.base.now o.traced.now)) script.graph
  graph_waiting rest is = is.graph (waits_of o.base.now o.traced.now) (one_waiting o.base.now o.traced.now)

  -- lines are enough where no set fails
  pub lines_where_none : (rest : ℕ) → IsScriptWaiting o.demands.now o.base.now o.traced.now rest script
      → IsFirstIfAny (detail_by explain script.demands) o.base.now script.graph None
      → AreEnoughLines o.demands.now o.base.now o.traced.now.rules (waits_of o.base.now o.traced.now) rest
  lines_where_none rest is none = (
    script.graph,
    graph_waiting rest is,
    subst (λ (asked : Demands). (set : ℕ) → ¬ (IsFailingUnder asked o.base.now script.graph set)) is.demands
        (none_fails (detail_by explain script.demands) o.base.now script.graph none),
  )

  -- what is reported of a group in each state of tracing
  pub need_without : (need : Need) (s : Tracing) → HasWaits o.traced.now s
      → ((rest : ℕ) → IsDifference (all_waits o.traced.now.waits) need.group rest
      → IsScriptWaiting o.demands.now o.base.now o.traced.now rest script)
      → need.choices ≡ lines_at o.traced.now.waits need.group → need.steps ≡ []
      → IsFirstOfAll (detail_by explain script.demands) o.base.now script.graph need.first
      → IsNeedByLines explain o s need
  need_without need s has each choices no_steps first = record {
    choices = choices ∙ ap (λ (ws : List Wait). lines_at ws need.group) (sym has.waits);
    no_steps = no_steps;
    first =
        λ rest apart.
        let is = each rest
        (subst (λ (ws : List Wait). IsDifference (all_waits ws) need.group rest) has.waits apart) in (
          script.graph,
          is.graph s has,
          subst
              (λ (ws : List Wait). IsFirstOfAll (detail_by explain (demands_waiting ws rest o.demands.now)) o.base.now
              script.graph need.first) (sym has.waits)
              (subst (λ (asked : Demands). IsFirstOfAll (detail_by explain asked) o.base.now script.graph need.first)
              is.demands first),
        );
  }
