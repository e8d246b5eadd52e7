use Rattle.std.proofs.Common.{◌≡◌, ℕ, ◌<◌, length}
use Rattle.patch_sets.specs.Sets.{Has}
use Rattle.crash_model.specs.Patches.{image_of}
use Rattle.crash_image.proofs.patching.redo.Given as goal

-- what is left to put makes of the image what all of it made of the first one
abbrev pub invariant-loop-id : goal.invariant-loop-id
invariant-loop-id g l = record {
  rest : image_of l.image l.graph l.left ≡ image_of l.fn.image l.graph l.fn.set;
  known : (id : ℕ) → Has l.left id → id < length l.graph;
  blocks : l.image.blocks ≡ l.fn.image.blocks;
}

abbrev pub decreases-loop-id : goal.decreases-loop-id
decreases-loop-id g l = l.left
