use Rattle.std.proofs.Common.{[], ◌∷◌, take}
use Rattle.std.specs.List.{All, Contains}
use Rattle.crash_model.specs.declared.showing.Shown.TheVariants.{File}
use Rattle.crash_model.specs.declared.showing.ShownSlot.{ShownSlot}
use Rattle.known_bytes.proofs.showing.are_allowed_after_two.Given as goal

abbrev pub invariant-loop-three : goal.invariant-loop-three
invariant-loop-three g l = All (λ y. (z : ShownSlot) → Contains l.fourth z
    → g.S.Showing.excuses l.showing (File (l.one ∷ l.two ∷ y ∷ z ∷ [])))
    (take l.three-index l.third)
