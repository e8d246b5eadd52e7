use Rattle.std.proofs.Common.{◌≡◌, take}
use Rattle.crash_model.proofs.names.Name.copy.Given as goal

abbrev pub invariant-loop-c : goal.invariant-loop-c
invariant-loop-c l = l.bytes.items ≡ take l.c-index l.self
