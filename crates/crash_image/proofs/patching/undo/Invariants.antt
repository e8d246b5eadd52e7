use Rattle.std.proofs.Common.{◌≡◌, ℕ, ◌<◌, length}
use Rattle.patch_sets.specs.Sets.{Has}
use Rattle.crash_image.specs.Moves.{without_set}
use Rattle.crash_image.proofs.patching.undo.Given as goal

-- what is left to put makes of the image what all of it made of the first one
abbrev pub invariant-loop-id : goal.invariant-loop-id
invariant-loop-id g l = record {
  rest : without_set l.image l.graph l.left ≡ without_set l.fn.image l.graph l.fn.set;
  known : (id : ℕ) → Has l.left id → id < length l.graph;
  blocks : l.image.blocks ≡ l.fn.image.blocks;
}

abbrev pub decreases-loop-id : goal.decreases-loop-id
decreases-loop-id g l = l.left
