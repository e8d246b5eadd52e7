use Rattle.std.proofs.Common.{◌≡◌, drop}
use Rattle.crash_model.specs.Paths.{are_same_shown}
use Rattle.crash_model.proofs.showing.are_same_shown.Given as goal

abbrev pub invariant-loop-at : goal.invariant-loop-at
invariant-loop-at l = are_same_shown (drop l.at l.one) (drop l.at l.two) ≡ are_same_shown l.one l.two
