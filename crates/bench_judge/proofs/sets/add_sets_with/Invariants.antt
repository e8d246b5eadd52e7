use Rattle.std.proofs.Common.{◌≤◌, vec_len}
use Rattle.std.specs.List.{All}
use Rattle.patch_sets.specs.Closed.{IsClosed}
use Rattle.crash_model.specs.Patches.{deps_of}
use Rattle.bench_judge.proofs.sets.add_sets_with.Given as goal

abbrev pub invariant-loop-i : goal.invariant-loop-i
invariant-loop-i l = (l.i-end ≤ vec_len l.sets) × All (IsClosed (deps_of l.graph)) l.sets.items
