use Rattle.std.proofs.Common.{[], ◌∷◌, take}
use Rattle.std.specs.List.{All, Contains}
use Rattle.crash_model.specs.declared.showing.Shown.TheVariants.{File}
use Rattle.crash_model.specs.declared.showing.ShownSlot.{ShownSlot}
use Rattle.known_bytes.proofs.showing.are_allowed_after_one.Given as goal

abbrev pub invariant-loop-two : goal.invariant-loop-two
invariant-loop-two g l = All (λ x. (y z : ShownSlot) → Contains l.third y → Contains l.fourth z
    → g.S.Showing.excuses l.showing (File (l.one ∷ x ∷ y ∷ z ∷ [])))
    (take l.two-index l.second)
