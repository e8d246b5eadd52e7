use Rattle.std.proofs.Common.{◌≡◌, List, length, map, sym, subst, ap, ◌∙◌}
use Rattle.crash_model.specs.ChosenWaits.{emitted_waiting, tracing_waiting}
use Rattle.crash_model.specs.Patches.{places_of}
use Rattle.crash_model.specs.Trace.{IsGraphOf}
use Rattle.crash_model.specs.Waiting.{Wait}
use Rattle.crash_model.specs.declared.rules.Rule.{Rule}
use Rattle.traced_patches.specs.Labels.{emitted_by}
use Rattle.traced_patches.specs.declared.labels.Label.{Label}
use Rattle.order_modules.proofs.other_graphs.graph_waiting.Goals as goal

pub graph_with-requires-clause-fits : goal.graph_with-requires-clause-fits
graph_with-requires-clause-fits g c = c.requires.fits

pub graph_with-requires-clause-each : goal.graph_with-requires-clause-each
graph_with-requires-clause-each g c = ap (λ (ls : List Label). length ls) c.as_slice.ensures.value
    ∙ c.in_ok-labels.ensures.each

pub returns-clause-graph : goal.returns-clause-graph
returns-clause-graph g c = λ s emitted links whole waits.
    let traced = c.args.traced.now in
    let chosen = c.args.chosen in
    let relabelled : map (emitted_waiting s.waits chosen) s.emitted
    ≡ emitted_by (places_of traced.patches) c.as_slice.result.now =
    ap (λ (ws : List Wait). map (emitted_waiting ws chosen) s.emitted) waits
    ∙ (ap (map (emitted_waiting traced.waits chosen)) emitted
    ∙ (sym c.in_ok-labels.ensures.emitted
    ∙ ap (emitted_by (places_of traced.patches)) (sym c.as_slice.ensures.value))) in
    subst (λ (rules : List Rule). IsGraphOf rules c.args.base.now (tracing_waiting chosen s) c.in_ok-graph.graph)
    c.ordering.ensures.rules
    (c.in_ok-graph.ensures.graph (tracing_waiting chosen s) relabelled links (whole ∙ sym c.ordering.ensures.whole))

pub returns-clause-fits : goal.returns-clause-fits
returns-clause-fits g c = c.in_ok-graph.ensures.fits
