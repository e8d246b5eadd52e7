use Rattle.std.proofs.Common.{◌+◌, length, arith, refl, sym, subst, ◌∙◌}
use Rattle.std.proofs.lemmas.Option.{slice_get_read}
use Rattle.crash_model.specs.Patches.{place, places_of}
use Rattle.traced_patches.specs.Labels.{emitted_at, emitted_by}
use Rattle.traced_patches.proofs.Labelled.{emitted_there, length-emitted}
use Rattle.order_modules.specs.Forcing.{forces_with}
use Rattle.order_modules.proofs.ForcedIds.{AreForced, forced_none, forced_one, forced_skip, forced_end}
use Rattle.order_modules.proofs.forcing.forced_by_fsync.Goals as goal
use Rattle.order_modules.proofs.forcing.forced_by_fsync.Goals.{then-is_forced_by_fsync, else-is_forced_by_fsync}

pub loop-id-init : goal.loop-id-init
loop-id-init g c = forced_none (forces_with c.args.module c.args.ranges.now c.args.last)
    (emitted_by (places_of c.args.graph.now) c.args.labels.now)

pub loop-id-preserved : goal.loop-id-preserved
loop-id-preserved g c =
    let graph = c.args.graph.now in
    let labels = c.args.labels.now in
    let id = c.loop-id.id in
    let label = c.index-labels-id.result in
    let patch = c.patch.result.now in
    let test = forces_with c.args.module c.args.ranges.now c.args.last in
    let all = emitted_by (places_of graph) labels in
    let e = emitted_at (place patch.block patch.offset patch.new.items) label in
    let at = emitted_there graph labels id label patch
    (slice_get_read labels (length labels) id label refl
    (omega (arith, c.requires, c.loop-id-test.true, c.len-id-end.ensures.number)) c.index-labels-id.is)
    c.patch.ensures.at in
    elim c.if-is_forced_by_fsync.branch [
      | then-is_forced_by_fsync w ↦
          subst (AreForced test all (id + 1)) (sym (w.ids-is ∙ w.with-ids.ensures))
          (forced_one test all id c.loop-id.ids c.loop-id.invariant e at
          (sym c.is_forced_by_fsync.ensures ∙ w.if-is_forced_by_fsync.true))
      | else-is_forced_by_fsync w ↦
          subst (AreForced test all (id + 1)) (sym w.ids-is)
          (forced_skip test all id c.loop-id.ids c.loop-id.invariant e at
          (sym c.is_forced_by_fsync.ensures ∙ w.if-is_forced_by_fsync.false))
    ]

pub returns : goal.returns
returns g c =
    let graph = c.args.graph.now in
    let labels = c.args.labels.now in
    forced_end (forces_with c.args.module c.args.ranges.now c.args.last) (emitted_by (places_of graph) labels)
    c.loop-id.id c.loop-id.ids c.loop-id.invariant
    (omega (arith, length-emitted graph labels c.requires, c.loop-id-test.false, c.len-id-end.ensures.number))
