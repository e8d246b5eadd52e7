use Rattle.std.proofs.Common.{◌≡◌, take}
use Rattle.workload_search.proofs.places.copied.Given as goal

abbrev pub invariant-loop-place : goal.invariant-loop-place
invariant-loop-place l = l.copy.items ≡ take l.place-index l.place-items
