use Rattle.hitting_sets.proofs.Twice.{in_order_alike}
use Rattle.question_model.specs.Enough as model
use Rattle.enough_rules.specs.Enough.{IsMinimalEnough, IsNeeded}
use Rattle.chosen_rules.specs.Sublists.{EnoughOf, all_of}
use Rattle.chosen_rules.proofs.Alike.{minimal_same, needed_same}
use Rattle.chosen_rules.proofs.Oracles.{all_places, more_are_enough}
use Rattle.enough_deciding.specs.Rules.{tracing_of}
use Rattle.enough_deciding.proofs.Tracings.{one_tracing, minimal_in_each, needed_in_each}
use Rattle.enough_deciding.proofs.oracle.RuleOracle.enough_sets.Goals as goal

pub enough_sets-requires : goal.enough_sets-requires
enough_sets-requires g c =
    let base = c.args.self.now.base.now in
    let t = c.args.self.now.traced.now in
    more_are_enough c.args.self.now.demands.now base (tracing_of base t) t.rules (all_of t.rules) (all_places t.rules)

pub returns-clause-enough : goal.returns-clause-enough
returns-clause-enough g c = λ last of_trace.
    let demands = c.args.self.now.demands.now in
    let base = c.args.self.now.base.now in
    let t = c.args.self.now.traced.now in
    let s = tracing_of base t in
    let all = all_of t.rules in
    let sets = c.in_ok-found.found.enough.items in
    in_order_alike (model.IsMinimalEnough demands base s t.rules) (model.IsMinimalEnough demands base last t.rules) sets
    (minimal_in_each demands base t s last t.rules (one_tracing base t) of_trace)
    (in_order_alike (IsMinimalEnough all (EnoughOf demands base s t.rules))
    (model.IsMinimalEnough demands base s t.rules)
    sets (minimal_same demands base s t.rules all (all_places t.rules)) c.in_ok-found.ensures.minimal)

pub returns-clause-needed : goal.returns-clause-needed
returns-clause-needed g c = λ last of_trace.
    let demands = c.args.self.now.demands.now in
    let base = c.args.self.now.base.now in
    let t = c.args.self.now.traced.now in
    let s = tracing_of base t in
    let all = all_of t.rules in
    let groups = c.in_ok-found.found.needed.items in
    in_order_alike (model.IsNeeded demands base s t.rules) (model.IsNeeded demands base last t.rules) groups
    (needed_in_each demands base t s last t.rules (one_tracing base t) of_trace)
    (in_order_alike (IsNeeded all (EnoughOf demands base s t.rules)) (model.IsNeeded demands base s t.rules) groups
    (needed_same demands base s t.rules all (all_places t.rules)) c.in_ok-found.ensures.needed)
