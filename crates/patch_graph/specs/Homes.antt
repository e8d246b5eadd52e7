-- For each block of a disk, the ids of its patches.
use Rattle.std.specs.Prelude.{◌≡◌, ℕ, ◌<◌, ◌↔◌, List, length, slice_index}
use Rattle.patch_sets.specs.Sets.{Has}

-- each block has a mask of the ids whose patches change it
pub record AreAtBlocks (homes masks : List ℕ) : Type 0 where
  pub sized : length masks ≡ 256
  pub exactly : (block id : ℕ) → block < 256
      → (Has (slice_index masks block) id ↔ ((id < length homes) × (slice_index homes id ≡ block)))
