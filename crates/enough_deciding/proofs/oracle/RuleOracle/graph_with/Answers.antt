use Rattle.std.proofs.Common.{◌≡◌, List, subst, sym, ap, ◌∙◌}
use Rattle.crash_model.specs.declared.rules.Rule.{Rule}
use Rattle.crash_model.specs.Trace.{IsGraphOf}
use Rattle.question_model.specs.Enough.{rules_in}
use Rattle.enough_deciding.proofs.oracle.RuleOracle.graph_with.Goals as goal

pub returns-clause-graph : goal.returns-clause-graph
returns-clause-graph g c = λ s of_trace.
    let base = c.args.self.now.base.now in
    let t = c.args.self.now.traced.now in
    let same : c.rules_in-ordering.result.rules.items ≡ rules_in t.rules c.args.set =
    c.rules_in-ordering.ensures.rules ∙ ap (λ (rules : List Rule). rules_in rules c.args.set) c.ordering.ensures.rules
    in
    subst (λ (rules : List Rule). IsGraphOf rules base s c.in_ok-graph.graph) same
    (c.in_ok-graph.ensures.graph s of_trace.emitted of_trace.links
    (of_trace.whole ∙ sym (c.rules_in-ordering.ensures.whole ∙ c.ordering.ensures.whole)))
