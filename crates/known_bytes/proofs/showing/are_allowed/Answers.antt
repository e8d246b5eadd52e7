use Rattle.std.proofs.Common.{[], ◌∷◌, arith}
use Rattle.std.specs.List.{Contains}
use Rattle.crash_model.specs.declared.showing.Shown.TheVariants.{File}
use Rattle.crash_model.specs.declared.showing.ShownSlot.{ShownSlot}
use Rattle.known_bytes.proofs.ListedSlots.{passed_more, passed_all}
use Rattle.known_bytes.proofs.showing.are_allowed.Goals as goal

pub loop-one-init : goal.loop-one-init
loop-one-init g c = λ k d less. absurd (omega (arith, less))

pub loop-one-preserved : goal.loop-one-preserved
loop-one-preserved g c =
    let P : ShownSlot → Type 0 = λ w.
    (x y z : ShownSlot) → Contains c.args.second.now x → Contains c.args.third.now y → Contains c.args.fourth.now z
    → g.S.Showing.excuses c.args.showing.now (File (w ∷ x ∷ y ∷ z ∷ [])) in
    passed_more c.args.first.now P P c.loop-one.one-index _ c.loop-one-test.true (λ w before. before)
    (c.are_allowed_after_one.ensures c.if-not-are_allowed_after_one.false) c.loop-one.invariant

pub returns : goal.returns
returns g c = λ allowed w x y z in_w in_x in_y in_z.
    passed_all c.args.first.now
    (λ w. (x y z : ShownSlot) → Contains c.args.second.now x → Contains c.args.third.now y
    → Contains c.args.fourth.now z → g.S.Showing.excuses c.args.showing.now (File (w ∷ x ∷ y ∷ z ∷ [])))
    c.loop-one.one-index c.loop-one-test.false c.loop-one.invariant w in_w x y z in_x in_y in_z
