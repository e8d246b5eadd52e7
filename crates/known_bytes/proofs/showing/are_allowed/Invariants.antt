use Rattle.std.proofs.Common.{[], ◌∷◌, take}
use Rattle.std.specs.List.{All, Contains}
use Rattle.crash_model.specs.declared.showing.Shown.TheVariants.{File}
use Rattle.crash_model.specs.declared.showing.ShownSlot.{ShownSlot}
use Rattle.known_bytes.proofs.showing.are_allowed.Given as goal

abbrev pub invariant-loop-one : goal.invariant-loop-one
invariant-loop-one g l = All (λ w. (x y z : ShownSlot) → Contains l.second x → Contains l.third y → Contains l.fourth z
    → g.S.Showing.excuses l.showing (File (w ∷ x ∷ y ∷ z ∷ [])))
    (take l.one-index l.first)
