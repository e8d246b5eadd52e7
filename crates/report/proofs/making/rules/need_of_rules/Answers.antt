use Rattle.std.proofs.Common.{List, ◌∙◌, ap, subst}
use Rattle.crash_model.specs.declared.rules.Rule.{Rule}
use Rattle.enough_deciding.specs.Rules.{tracing_of}
use Rattle.enough_deciding.proofs.Tracings.{one_tracing}
use Rattle.report.specs.FirstCrashes.{IsFirstIfAny}
use Rattle.report.specs.Made.{Detail}
use Rattle.report.specs.OnChoices.{rules_at}
use Rattle.report.proofs.Firsts.{none_fails}
use Rattle.report.proofs.making.rules.need_of_rules.Goals as goal

pub first_crash-requires : goal.first_crash-requires
first_crash-requires g c =
    let o = c.args.oracle.now in
    let base = o.base.now in
    let t = o.traced.now in
    record {
      on_base = record {
        fits = c.in_ok-graph.ensures.fits;
        undo = (c.in_ok-graph.ensures.graph (tracing_of base t) (one_tracing base t)).undo;
      };
    }

pub unreachable-requires : goal.unreachable-requires
unreachable-requires g c =
    let o = c.args.oracle.now in
    let base = o.base.now in
    let t = o.traced.now in
    let graph = c.in_ok-graph.graph in
    let is = c.in_ok-graph.ensures.graph (tracing_of base t) (one_tracing base t) in
    let detail : Detail = record { explain = c.args.explain; demands = o.demands.now } in
    let none = subst (IsFirstIfAny detail base graph) c.in_default.is (c.in_ok-first.ensures.first is.earlier) in
    c.requires (graph, is, none_fails detail base graph none)

pub returns-clause-need : goal.returns-clause-need
returns-clause-need g c = λ s of_trace.
    let o = c.args.oracle.now in
    let base = o.base.now in
    let t = o.traced.now in
    let graph = c.in_ok-graph.graph in
    let earlier = (c.in_ok-graph.ensures.graph (tracing_of base t) (one_tracing base t)).earlier in
    let detail : Detail = record { explain = c.args.explain; demands = o.demands.now } in
    record {
      choices = c.rules_at.ensures ∙ ap (λ (rules : List Rule). rules_at rules c.args.group) c.ordering.ensures.rules;
      no_steps = c.new.ensures.items;
      first = (
        graph,
        c.in_ok-graph.ensures.graph s of_trace,
        subst (IsFirstIfAny detail base graph) c.in-Some.is (c.in_ok-first.ensures.first earlier),
      );
    }
