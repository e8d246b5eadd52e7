use Rattle.std.proofs.Common.{◌∙◌, refl, subst}
use Rattle.pool_judging.specs.Judging.{search_by}
use Rattle.report.specs.FirstCrashes.{IsFirstIfAny}
use Rattle.report.proofs.FirstWorkload.{below, traced, patches_of, some_first, need_of}
use Rattle.report.proofs.making.workloads.need_of_workloads.Goals as goal

pub first_without-requires-clause-needed : goal.first_without-requires-clause-needed
first_without-requires-clause-needed g c = c.requires.needed.needed

pub workload_at-requires : goal.workload_at-requires
workload_at-requires g c = below (search_by c.args.rules.now.judge.now) c.args.group _ c.in_ok-places.ensures

pub steps_at-requires-clause-among : goal.steps_at-requires-clause-among
steps_at-requires-clause-among g c = below (search_by c.args.rules.now.judge.now) c.args.group _ c.in_ok-places.ensures

pub traced_of-requires : goal.traced_of-requires
traced_of-requires g c = traced (search_by c.args.rules.now.judge.now) c.args.group _ c.in_ok-places.ensures _
    (c.deref.ensures.value ∙ c.in_ok-workload.ensures)

pub demands-requires : goal.demands-requires
demands-requires g c = traced (search_by c.args.rules.now.judge.now) c.args.group _ c.in_ok-places.ensures _
    (c.deref-2.ensures.value ∙ c.in_ok-workload.ensures)

pub first_crash-requires : goal.first_crash-requires
first_crash-requires g c =
    let has = patches_of (search_by c.args.rules.now.judge.now) c.args.group _ c.in_ok-places.ensures _ _
    c.in_ok-traced.traced c.in_ok-demands.demands c.in_ok-graph.graph
    (c.deref.ensures.value ∙ c.in_ok-workload.ensures) (c.deref-2.ensures.value ∙ c.in_ok-workload.ensures)
    c.in_ok-traced.ensures.traced c.in_ok-demands.ensures c.in_ok-graph.ensures.graph in
    record { on_base = record { fits = c.in_ok-graph.ensures.fits; undo = has.graph.undo } }

pub unreachable-requires : goal.unreachable-requires
unreachable-requires g c =
    let s = search_by c.args.rules.now.judge.now in
    let demands = c.in_ok-demands.demands in
    let graph = c.in_ok-graph.graph in
    let has = patches_of s c.args.group _ c.in_ok-places.ensures _ _ c.in_ok-traced.traced demands graph
    (c.deref.ensures.value ∙ c.in_ok-workload.ensures) (c.deref-2.ensures.value ∙ c.in_ok-workload.ensures)
    c.in_ok-traced.ensures.traced c.in_ok-demands.ensures c.in_ok-graph.ensures.graph in
    some_first s c.args.group _ c.in_ok-places.ensures demands graph has c.args.explain
    (subst (IsFirstIfAny (record { explain = c.args.explain; demands = demands }) s.base graph) c.in_default.is
    (c.in_ok-first.ensures.first has.graph.earlier))

pub returns-clause-need : goal.returns-clause-need
returns-clause-need g c =
    let s = search_by c.args.rules.now.judge.now in
    let demands = c.in_ok-demands.demands in
    let graph = c.in_ok-graph.graph in
    let has = patches_of s c.args.group _ c.in_ok-places.ensures _ _ c.in_ok-traced.traced demands graph
    (c.deref.ensures.value ∙ c.in_ok-workload.ensures) (c.deref-2.ensures.value ∙ c.in_ok-workload.ensures)
    c.in_ok-traced.ensures.traced c.in_ok-demands.ensures c.in_ok-graph.ensures.graph in
    need_of s c.args.group _ c.in_ok-places.ensures demands graph has c.args.explain _ refl c.rules_at.ensures
    c.in_ok-steps_at.ensures
    (subst (IsFirstIfAny (record { explain = c.args.explain; demands = demands }) s.base graph) c.in-Some.is
    (c.in_ok-first.ensures.first has.graph.earlier))
