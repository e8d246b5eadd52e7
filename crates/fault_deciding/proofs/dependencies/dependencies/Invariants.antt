use Rattle.std.proofs.Common.{◌≡◌, take}
use Rattle.crash_model.specs.Patches.{deps_of}
use Rattle.fault_deciding.proofs.dependencies.dependencies.Given as goal

abbrev pub invariant-loop-id : goal.invariant-loop-id
invariant-loop-id g l = l.deps.items ≡ take l.id (deps_of l.graph)
