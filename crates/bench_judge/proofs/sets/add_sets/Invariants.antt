use Rattle.std.specs.List.{All}
use Rattle.patch_sets.specs.Closed.{IsClosed}
use Rattle.crash_model.specs.Patches.{deps_of}
use Rattle.bench_judge.proofs.sets.add_sets.Given as goal

abbrev pub invariant-loop-id : goal.invariant-loop-id
invariant-loop-id l = All (IsClosed (deps_of l.graph)) l.sets.items
