use Rattle.std.proofs.Common.{[], ◌∷◌, arith}
use Rattle.std.specs.List.{Contains}
use Rattle.crash_model.specs.declared.showing.Shown.TheVariants.{File}
use Rattle.crash_model.specs.declared.showing.ShownSlot.{ShownSlot}
use Rattle.known_bytes.proofs.ListedSlots.{passed_more, passed_all}
use Rattle.known_bytes.proofs.showing.are_allowed_after_two.Goals as goal

pub loop-three-init : goal.loop-three-init
loop-three-init g c = λ k d less. absurd (omega (arith, less))

pub loop-three-preserved : goal.loop-three-preserved
loop-three-preserved g c =
    let P : ShownSlot → Type 0 = λ y. (z : ShownSlot) → Contains c.args.fourth.now z
    → g.S.Showing.excuses c.args.showing.now (File (c.args.one ∷ c.args.two ∷ y ∷ z ∷ [])) in
    passed_more c.args.third.now P P c.loop-three.three-index _ c.loop-three-test.true (λ y before. before)
    (c.are_allowed_after_three.ensures c.if-not-are_allowed_after_three.false) c.loop-three.invariant

pub returns : goal.returns
returns g c = λ allowed y z in_y in_z.
    passed_all c.args.third.now
    (λ y. (z : ShownSlot) → Contains c.args.fourth.now z
    → g.S.Showing.excuses c.args.showing.now (File (c.args.one ∷ c.args.two ∷ y ∷ z ∷ [])))
    c.loop-three.three-index c.loop-three-test.false c.loop-three.invariant y in_y z in_z
