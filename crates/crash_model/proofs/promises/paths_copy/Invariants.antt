use Rattle.std.proofs.Common.{◌≡◌, take}
use Rattle.crash_model.proofs.promises.paths_copy.Given as goal

abbrev pub invariant-loop-path : goal.invariant-loop-path
invariant-loop-path l = l.copies.items ≡ take l.path-index l.paths.items
