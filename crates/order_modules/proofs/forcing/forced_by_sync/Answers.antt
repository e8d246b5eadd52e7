use Rattle.std.proofs.Common.{◌+◌, length, map, arith, refl, sym, subst, ◌∙◌}
use Rattle.std.proofs.lemmas.List.{length-map}
use Rattle.std.proofs.lemmas.Option.{slice_get_read}
use Rattle.crash_model.specs.Waiting.{sync_forces}
use Rattle.traced_patches.specs.Labels.{emitted_of}
use Rattle.order_modules.proofs.ForcedIds.{AreForced, forced_none, forced_one, forced_skip, forced_end, labelled_at}
use Rattle.order_modules.proofs.forcing.forced_by_sync.Goals as goal
use Rattle.order_modules.proofs.forcing.forced_by_sync.Goals.{then-is_forced_by_sync, else-is_forced_by_sync}

pub loop-id-init : goal.loop-id-init
loop-id-init c = forced_none (sync_forces c.args.module) (map emitted_of c.args.labels.now)

pub loop-id-preserved : goal.loop-id-preserved
loop-id-preserved c =
    let labels = c.args.labels.now in
    let id = c.loop-id.id in
    let x = c.index-labels-id.result in
    let test = sync_forces c.args.module in
    let all = map emitted_of labels in
    let at = labelled_at labels id x
    (slice_get_read labels (length labels) id x refl c.loop-id-test.true c.index-labels-id.is) in
    elim c.if-is_forced_by_sync.branch [
      | then-is_forced_by_sync w ↦
          subst (AreForced test all (id + 1)) (sym (w.ids-is ∙ w.with-ids.ensures))
          (forced_one test all id c.loop-id.ids c.loop-id.invariant (emitted_of x) at
          (sym c.is_forced_by_sync.ensures ∙ w.if-is_forced_by_sync.true))
      | else-is_forced_by_sync w ↦
          subst (AreForced test all (id + 1)) (sym w.ids-is)
          (forced_skip test all id c.loop-id.ids c.loop-id.invariant (emitted_of x) at
          (sym c.is_forced_by_sync.ensures ∙ w.if-is_forced_by_sync.false))
    ]

pub returns : goal.returns
returns c =
    let labels = c.args.labels.now in
    forced_end (sync_forces c.args.module) (map emitted_of labels) c.loop-id.id c.loop-id.ids c.loop-id.invariant
    (omega (arith, length-map labels emitted_of, c.loop-id-test.false))
