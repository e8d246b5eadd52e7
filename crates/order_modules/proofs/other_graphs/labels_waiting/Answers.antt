use Rattle.std.proofs.Common.{List, length, map, ap, ◌∙◌}
use Rattle.std.proofs.lemmas.List.{take_all, length-map}
use Rattle.crash_model.specs.ChosenWaits.{emitted_waiting, forced_before}
use Rattle.crash_model.specs.Patches.{places_of}
use Rattle.crash_model.specs.Waiting.{Wait}
use Rattle.traced_patches.specs.Labels.{emitted_by}
use Rattle.traced_patches.specs.declared.labels.Label.{Label}
use Rattle.order_modules.proofs.Relabelling.{relabelled, relabelled_more, emitted_relabelled}
use Rattle.order_modules.proofs.other_graphs.labels_waiting.Goals as goal

pub loop-label-init : goal.loop-label-init
loop-label-init g c = c.new-labels.ensures.items

pub loop-label-preserved : goal.loop-label-preserved
loop-label-preserved g c =
    relabelled_more c.args.traced.now.waits c.args.chosen c.labels-label-items.result.now c.loop-label.label-index
    c.label-item.result c.loop-label-test.true c.label-item.is c.loop-label.labels.items c.push.new.self.items
    c.forced_before.result c.loop-label.invariant
    (c.forced_before.ensures
    ∙ ap (λ (ws : List Wait). forced_before ws c.args.chosen c.label-item.result.origin.line) c.waits.ensures)
    c.in_ok-push.ensures.items

pub returns-clause-each : goal.returns-clause-each
returns-clause-each g c =
    let labels = c.labels-label-items.result.now in
    let f = relabelled c.args.traced.now.waits c.args.chosen in
    ap length c.loop-label.invariant
    ∙ (ap (λ (ls : List Label). length (map f ls)) (take_all c.loop-label.label-index labels c.loop-label-test.false)
    ∙ (length-map labels f ∙ c.labels-label-items.ensures.each))

pub returns-clause-emitted : goal.returns-clause-emitted
returns-clause-emitted g c =
    let traced = c.args.traced.now in
    let labels = c.labels-label-items.result.now in
    let f = relabelled traced.waits c.args.chosen in
    let places = places_of traced.patches in
    ap (emitted_by places) c.loop-label.invariant
    ∙ (ap (λ (ls : List Label). emitted_by places (map f ls))
    (take_all c.loop-label.label-index labels c.loop-label-test.false)
    ∙ (emitted_relabelled traced.waits c.args.chosen places labels
    ∙ ap (map (emitted_waiting traced.waits c.args.chosen)) c.labels-label-items.ensures.emitted))
