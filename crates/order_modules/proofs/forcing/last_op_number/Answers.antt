use Rattle.std.proofs.Common.{◌+◌, length, arith, refl, sym, subst, ◌∙◌}
use Rattle.std.proofs.lemmas.Option.{slice_get_read}
use Rattle.crash_model.specs.Patches.{place, places_of}
use Rattle.traced_patches.specs.Labels.{emitted_at, emitted_by}
use Rattle.traced_patches.proofs.Labelled.{emitted_there, length-emitted}
use Rattle.order_modules.specs.Forcing.{has_contents}
use Rattle.order_modules.proofs.ForcedIds.{IsLast, last_none, last_one, last_skip, last_end, larger}
use Rattle.order_modules.proofs.forcing.last_op_number.Goals as goal
use Rattle.order_modules.proofs.forcing.last_op_number.Goals.{then-has_contents, else-has_contents}

pub loop-id-init : goal.loop-id-init
loop-id-init g c =
    last_none (has_contents c.args.ranges.now) (emitted_by (places_of c.args.graph.now) c.args.labels.now)

pub loop-id-preserved : goal.loop-id-preserved
loop-id-preserved g c =
    let graph = c.args.graph.now in
    let labels = c.args.labels.now in
    let id = c.loop-id.id in
    let label = c.index-labels-id.result in
    let patch = c.patch.result.now in
    let test = has_contents c.args.ranges.now in
    let all = emitted_by (places_of graph) labels in
    let e = emitted_at (place patch.block patch.offset patch.new.items) label in
    let at = emitted_there graph labels id label patch
    (slice_get_read labels (length labels) id label refl
    (omega (arith, c.requires, c.loop-id-test.true, c.len-id-end.ensures.number)) c.index-labels-id.is)
    c.patch.ensures.at in
    elim c.if-has_contents.branch [
      | then-has_contents w ↦
          subst (IsLast test all (id + 1))
          (sym (w.last-is ∙ (w.max-last.ensures ∙ larger c.loop-id.last label.op_number)))
          (last_one test all id c.loop-id.last c.loop-id.invariant e at
          (sym c.has_contents.ensures ∙ w.if-has_contents.true))
      | else-has_contents w ↦
          subst (IsLast test all (id + 1)) (sym w.last-is)
          (last_skip test all id c.loop-id.last c.loop-id.invariant e at
          (sym c.has_contents.ensures ∙ w.if-has_contents.false))
    ]

pub returns : goal.returns
returns g c =
    let graph = c.args.graph.now in
    let labels = c.args.labels.now in
    last_end (has_contents c.args.ranges.now) (emitted_by (places_of graph) labels) c.loop-id.id c.loop-id.last
    c.loop-id.invariant
    (omega (arith, length-emitted graph labels c.requires, c.loop-id-test.false, c.len-id-end.ensures.number))
