use Rattle.std.proofs.Common.{◌∙◌}
use Rattle.pool_judging.specs.Judging.{search_by}
use Rattle.pool_judging.proofs.Workloads.{below, traced, fails_by}
use Rattle.pool_judging.proofs.rules.PoolRulesRuleJudge.fails_without.Goals as goal

pub workload_at-requires : goal.workload_at-requires
workload_at-requires g c = below (search_by c.args.self.now.judge.now) c.args.places.now.items c.requires.passing

pub traced_of-requires : goal.traced_of-requires
traced_of-requires g c = traced (search_by c.args.self.now.judge.now) c.args.places.now.items c.requires.passing
    c.in_ok-steps.steps.items c.deref.result.now c.in_ok-steps.ensures c.deref.ensures.value

pub demands-requires : goal.demands-requires
demands-requires g c = traced (search_by c.args.self.now.judge.now) c.args.places.now.items c.requires.passing
    c.in_ok-steps.steps.items c.deref-2.result.now c.in_ok-steps.ensures c.deref-2.ensures.value

pub returns : goal.returns
returns g c =
    fails_by (search_by c.args.self.now.judge.now) c.args.places.now.items c.deref.result.now c.deref-2.result.now
    c.in_ok-traced.traced c.in_ok-demanded.demanded (c.deref.ensures.value ∙ c.in_ok-steps.ensures)
    (c.deref-2.ensures.value ∙ c.in_ok-steps.ensures) c.in_ok-traced.ensures.traced
    c.in_ok-demanded.ensures c.args.group
    c.in_ok-fails.fails c.in_ok-fails.ensures
