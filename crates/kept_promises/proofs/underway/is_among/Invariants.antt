use Rattle.std.proofs.Common.{◌≡◌, false, take}
use Rattle.std.specs.List.{list_any}
use Rattle.crash_model.specs.Paths.{are_same_shown}
use Rattle.kept_promises.proofs.underway.is_among.Given as goal

abbrev pub invariant-loop-allowance : goal.invariant-loop-allowance
invariant-loop-allowance l =
    list_any (λ a. are_same_shown a.shows.items l.shows) (take l.allowance-index l.allowed) ≡ false
