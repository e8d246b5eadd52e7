use Rattle.std.proofs.Common.{ℕ, ◌<◌, length, get_or}
use Rattle.patch_sets.specs.Sets.{Has, IsSubset}
use Rattle.crash_model.specs.Patches.{deps_of}
use Rattle.patch_graph.proofs.graph.is_closed_in.Given as goal

abbrev pub invariant-loop-id : goal.invariant-loop-id
invariant-loop-id l = record {
  known : (id : ℕ) → Has l.set id → id < length l.patches;
  whole : (id : ℕ) → id < l.id → Has l.set id → IsSubset (get_or (deps_of l.patches) id 0) l.set;
}
