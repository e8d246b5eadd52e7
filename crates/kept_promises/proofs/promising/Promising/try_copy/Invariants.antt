use Rattle.std.proofs.Common.{◌≡◌, take}
use Rattle.kept_promises.proofs.promising.Promising.try_copy.Given as goal

abbrev pub invariant-loop-one : goal.invariant-loop-one
invariant-loop-one g l = l.underway.items ≡ take l.one-index l.one-items
