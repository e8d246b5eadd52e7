use Rattle.std.proofs.Common.{[], ◌∷◌, arith}
use Rattle.crash_model.specs.declared.showing.Shown.TheVariants.{File}
use Rattle.crash_model.specs.declared.showing.ShownSlot.{ShownSlot}
use Rattle.known_bytes.proofs.ListedSlots.{passed_more, passed_all}
use Rattle.known_bytes.proofs.showing.are_allowed_after_three.Goals as goal

pub loop-four-init : goal.loop-four-init
loop-four-init g c = λ k d less. absurd (omega (arith, less))

pub loop-four-preserved : goal.loop-four-preserved
loop-four-preserved g c =
    let P : ShownSlot → Type 0 = λ z.
    g.S.Showing.excuses c.args.showing.now (File (c.args.one ∷ c.args.two ∷ c.args.three ∷ z ∷ [])) in
    passed_more c.args.fourth.now P P c.loop-four.four-index _ c.loop-four-test.true (λ z before. before)
    (c.allows.ensures c.if-not-allows.false) c.loop-four.invariant

pub returns : goal.returns
returns g c = λ allowed z in_z.
    passed_all c.args.fourth.now
    (λ z. g.S.Showing.excuses c.args.showing.now (File (c.args.one ∷ c.args.two ∷ c.args.three ∷ z ∷ [])))
    c.loop-four.four-index c.loop-four-test.false c.loop-four.invariant z in_z
