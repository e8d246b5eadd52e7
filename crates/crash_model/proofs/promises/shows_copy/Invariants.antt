use Rattle.std.proofs.Common.{◌≡◌, take}
use Rattle.crash_model.proofs.promises.shows_copy.Given as goal

abbrev pub invariant-loop-shown : goal.invariant-loop-shown
invariant-loop-shown l = l.copies.items ≡ take l.shown-index l.shows.items
