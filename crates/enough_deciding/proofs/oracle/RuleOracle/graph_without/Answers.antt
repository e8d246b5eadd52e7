use Rattle.std.proofs.Common.{ℕ, List, subst, ap, ◌∙◌}
use Rattle.patch_sets.specs.Ends.{IsDifference}
use Rattle.crash_model.specs.declared.rules.Rule.{Rule}
use Rattle.chosen_rules.specs.Sublists.{all_of}
use Rattle.chosen_rules.proofs.Alike.{rest_rules}
use Rattle.chosen_rules.proofs.Oracles.{all_places}
use Rattle.enough_deciding.specs.Rules.{IsGraphBy, tracing_of}
use Rattle.enough_deciding.proofs.oracle.RuleOracle.graph_without.Goals as goal

pub returns-clause-graph : goal.returns-clause-graph
returns-clause-graph g c =
    let demands = c.args.self.now.demands.now in
    let base = c.args.self.now.base.now in
    let t = c.args.self.now.traced.now in
    let all = c.all_rules-all.ensures ∙ ap (λ (rules : List Rule). all_of rules) c.ordering.ensures.rules in
    let apart = subst (λ (set : ℕ). IsDifference set c.args.group c.difference.result) all c.difference.ensures in
    let same = rest_rules demands base (tracing_of base t) t.rules (all_of t.rules) (all_places t.rules) c.args.group
    c.difference.result apart in
    subst (λ (rules : List Rule). IsGraphBy rules base t c.in_ok-graph.graph) same c.in_ok-graph.ensures.graph
