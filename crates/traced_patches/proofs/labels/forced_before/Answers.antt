use Rattle.std.proofs.Common.{false, refl}
use Rattle.std.specs.Bool.{IsTrue}
use Rattle.crash_model.specs.ChosenWaits.{forced_before}
use Rattle.traced_patches.proofs.ForcedBefore as ids
use Rattle.traced_patches.proofs.labels.forced_before.Goals as goal
use Rattle.traced_patches.proofs.labels.forced_before.Goals.{then-has+then-wait-line, else-has}
use Rattle.traced_patches.proofs.labels.forced_before.Goals.{else-has-via-then-has+else-wait-line}
use Rattle.traced_patches.proofs.labels.forced_before.Goals.{else-has-via-else-has}

pub loop-place-init : goal.loop-place-init
loop-place-init c = ids.forced_first c.args.waits.now c.args.chosen c.args.line

pub loop-place-preserved : goal.loop-place-preserved
loop-place-preserved c =
    let waits = c.args.waits.now in
    let line = c.args.line in
    let place = c.loop-place.place in
    let forced = c.loop-place.forced in
    let wait = c.index-waits-place.result in
    let inside = c.loop-place-test.true in
    let is = c.index-waits-place.is in
    let so_far = c.loop-place.invariant in
    let next = c.if-has.forced in
    elim c.if-has.branch [
      | then-has+then-wait-line w ↦ ids.forced_with waits c.args.chosen line place forced wait inside is so_far next
          (w.if-has.ensures.0 refl) w.if-wait-line.true w.forced-is
      | else-has w ↦ elim w.else-has.branch [
        | else-has-via-then-has+else-wait-line v
            ↦ ids.forced_behind waits c.args.chosen line place forced wait inside is
            so_far next v.if-wait-line.false w.forced-is
        | else-has-via-else-has v ↦ ids.forced_unchosen waits c.args.chosen line place forced wait inside is so_far next
            (λ has. let not : IsTrue false = v.if-has.ensures.1 has in absurd (cc)) w.forced-is
      ]
    ]

pub returns : goal.returns
unfolding forced_before
returns c = ids.forced_all c.args.waits.now c.args.chosen c.args.line c.loop-place.place c.loop-place.forced
    c.loop-place-test.false c.loop-place.invariant
