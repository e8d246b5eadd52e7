use Rattle.std.proofs.Common.{[], ◌∷◌, take}
use Rattle.std.specs.List.{All}
use Rattle.crash_model.specs.declared.showing.Shown.TheVariants.{File}
use Rattle.known_bytes.proofs.showing.are_allowed_after_three.Given as goal

abbrev pub invariant-loop-four : goal.invariant-loop-four
invariant-loop-four g l = All (λ z. g.S.Showing.excuses l.showing (File (l.one ∷ l.two ∷ l.three ∷ z ∷ [])))
    (take l.four-index l.fourth)
