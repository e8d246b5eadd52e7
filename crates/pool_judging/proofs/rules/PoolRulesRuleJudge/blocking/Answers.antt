use Rattle.std.proofs.Common.{List, subst, sym, ◌∙◌}
use Rattle.patch_sets.specs.Sets.{IsSubset}
use Rattle.crash_model.specs.declared.rules.Rule.{Rule}
use Rattle.chosen_rules.specs.Sublists.{all_of}
use Rattle.pool_judging.specs.Judging.{search_by}
use Rattle.pool_judging.proofs.Workloads.{below, traced, found_in_trace}
use Rattle.pool_judging.proofs.rules.PoolRulesRuleJudge.blocking.Goals as goal

pub workload_at-requires : goal.workload_at-requires
workload_at-requires g c = below (search_by c.args.self.now.judge.now) c.args.places.now.items c.requires.passing

pub traced_of-requires : goal.traced_of-requires
traced_of-requires g c = traced (search_by c.args.self.now.judge.now) c.args.places.now.items c.requires.passing
    c.in_ok-steps.steps.items c.deref.result.now c.in_ok-steps.ensures c.deref.ensures.value

pub demands-requires : goal.demands-requires
demands-requires g c = traced (search_by c.args.self.now.judge.now) c.args.places.now.items c.requires.passing
    c.in_ok-steps.steps.items c.deref-2.result.now c.in_ok-steps.ensures c.deref-2.ensures.value

pub blocking_in-requires-clause-within : goal.blocking_in-requires-clause-within
blocking_in-requires-clause-within g c =
    subst (λ (rules : List Rule). IsSubset c.args.set (all_of rules)) (sym c.in_ok-traced.ensures.traced.rules)
    c.requires.within

pub returns : goal.returns
returns g c =
    found_in_trace (search_by c.args.self.now.judge.now) c.args.places.now.items c.deref.result.now
    c.deref-2.result.now c.in_ok-traced.traced c.in_ok-demands.demands (c.deref.ensures.value ∙ c.in_ok-steps.ensures)
    (c.deref-2.ensures.value ∙ c.in_ok-steps.ensures) c.in_ok-traced.ensures.traced c.in_ok-demands.ensures c.args.set
    c.in_ok-found.found c.in_ok-found.ensures
