use Rattle.std.proofs.Common.{ℕ, ◌<◌, length}
use Rattle.patch_sets.specs.Sets.{Has, IsSubset}
use Rattle.crash_image.proofs.Differ.{HasOrLeft}
use Rattle.crash_image.proofs.mover.add_blocks.Given as goal

abbrev pub invariant-loop-id : goal.invariant-loop-id
invariant-loop-id g l = record {
  old : IsSubset l.blocks l.all;
  more : HasOrLeft l.graph l.set l.left l.all;
  known : (id : ℕ) → Has l.left id → id < length l.graph;
}

abbrev pub decreases-loop-id : goal.decreases-loop-id
decreases-loop-id g l = l.left
