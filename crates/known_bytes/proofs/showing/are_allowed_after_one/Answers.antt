use Rattle.std.proofs.Common.{[], ◌∷◌, arith}
use Rattle.std.specs.List.{Contains}
use Rattle.crash_model.specs.declared.showing.Shown.TheVariants.{File}
use Rattle.crash_model.specs.declared.showing.ShownSlot.{ShownSlot}
use Rattle.known_bytes.proofs.ListedSlots.{passed_more, passed_all}
use Rattle.known_bytes.proofs.showing.are_allowed_after_one.Goals as goal

pub loop-two-init : goal.loop-two-init
loop-two-init g c = λ k d less. absurd (omega (arith, less))

pub loop-two-preserved : goal.loop-two-preserved
loop-two-preserved g c =
    let P : ShownSlot → Type 0 = λ x. (y z : ShownSlot) → Contains c.args.third.now y → Contains c.args.fourth.now z
    → g.S.Showing.excuses c.args.showing.now (File (c.args.one ∷ x ∷ y ∷ z ∷ [])) in
    passed_more c.args.second.now P P c.loop-two.two-index _ c.loop-two-test.true (λ x before. before)
    (c.are_allowed_after_two.ensures c.if-not-are_allowed_after_two.false) c.loop-two.invariant

pub returns : goal.returns
returns g c = λ allowed x y z in_x in_y in_z.
    passed_all c.args.second.now
    (λ x. (y z : ShownSlot) → Contains c.args.third.now y → Contains c.args.fourth.now z
    → g.S.Showing.excuses c.args.showing.now (File (c.args.one ∷ x ∷ y ∷ z ∷ [])))
    c.loop-two.two-index c.loop-two-test.false c.loop-two.invariant x in_x y z in_y in_z
