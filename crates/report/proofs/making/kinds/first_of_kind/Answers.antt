use Rattle.std.proofs.Common.{◌<◌, List, ◌∙◌, subst, sym}
use Rattle.std.specs.List.{All}
use Rattle.patch_sets.specs.Closed.{IsClosed}
use Rattle.crash_model.specs.Patches.{deps_of}
use Rattle.crash_model.specs.declared.patches.Patch.{Patch}
use Rattle.pool_judging.specs.Judging.{search_by}
use Rattle.report.specs.Made.{IsSection}
use Rattle.report.specs.Makers.{Making}
use Rattle.report.proofs.FirstOfKind.{below, traced, patches_of, first_closed, first_of_kind}
use Rattle.report.proofs.making.kinds.first_of_kind.Goals as goal

pub workload_at-requires : goal.workload_at-requires
workload_at-requires g c = below (search_by c.args.judge.now) c.args.shown.now c.requires

pub steps_at-requires-clause-among : goal.steps_at-requires-clause-among
steps_at-requires-clause-among g c = below (search_by c.args.judge.now) c.args.shown.now c.requires

pub traced_of-requires : goal.traced_of-requires
traced_of-requires g c = traced (search_by c.args.judge.now) c.args.shown.now c.requires c.deref.result.now
    (c.deref.ensures.value ∙ c.in_ok-workload.ensures)

pub demands-requires : goal.demands-requires
demands-requires g c = traced (search_by c.args.judge.now) c.args.shown.now c.requires c.deref-2.result.now
    (c.deref-2.ensures.value ∙ c.in_ok-workload.ensures)

pub new-requires : goal.new-requires
new-requires g c =
    let s = search_by c.args.judge.now in
    let graph = c.into_graph-graph.result in
    let has = patches_of s c.args.shown.now c.requires c.deref.result.now c.deref-2.result.now c.in_ok-traced.traced
    c.in_ok-demands.demands graph (c.deref.ensures.value ∙ c.in_ok-workload.ensures)
    (c.deref-2.ensures.value ∙ c.in_ok-workload.ensures) c.in_ok-traced.ensures.traced c.into_graph-graph.ensures
    c.in_ok-demands.ensures in
    record {
      fits = subst (All (λ (patch : Patch). patch.block < s.base.blocks)) (sym c.into_graph-graph.ensures)
          c.in_ok-traced.ensures.fits;
      undo = has.graph.undo;
    }

pub section-requires : goal.section-requires
section-requires g c =
    let shown = c.args.shown.now in
    let graph = c.into_graph-graph.result in
    let has = patches_of (search_by c.args.judge.now) shown c.requires c.deref.result.now c.deref-2.result.now
    c.in_ok-traced.traced c.in_ok-demands.demands graph (c.deref.ensures.value ∙ c.in_ok-workload.ensures)
    (c.deref-2.ensures.value ∙ c.in_ok-workload.ensures) c.in_ok-traced.ensures.traced c.into_graph-graph.ensures
    c.in_ok-demands.ensures in
    subst (λ (m : Making). IsClosed (deps_of m.patches) shown.first) (sym c.in_ok-maker.ensures)
    (first_closed (search_by c.args.judge.now) shown c.requires c.in_ok-demands.demands graph has)

pub returns-clause-first : goal.returns-clause-first
returns-clause-first g c =
    let s = search_by c.args.judge.now in
    let shown = c.args.shown.now in
    let graph = c.into_graph-graph.result in
    let demands = c.in_ok-demands.demands in
    let section = c.in_ok-section.field-0 in
    let has = patches_of s shown c.requires c.deref.result.now c.deref-2.result.now c.in_ok-traced.traced demands graph
    (c.deref.ensures.value ∙ c.in_ok-workload.ensures) (c.deref-2.ensures.value ∙ c.in_ok-workload.ensures)
    c.in_ok-traced.ensures.traced c.into_graph-graph.ensures c.in_ok-demands.ensures in
    first_of_kind s shown c.requires demands graph has c.args.explain c.in_ok-steps_at.field-0.items section
    c.in_ok-steps_at.ensures c.in_ok-section.ensures.set
    (subst (λ (m : Making). IsSection m.detail m.base m.patches section) c.in_ok-maker.ensures
    c.in_ok-section.ensures.made)
