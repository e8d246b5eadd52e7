-- The patches that cover each byte of a disk.
use Rattle.std.specs.Prelude.{◌≡◌, ℕ, ◌+◌, ◌*◌, ◌<◌, ◌≤◌, ◌↔◌, ◌⊎◌, List, length, slice_index}
use Rattle.std.specs.List.{All}
use Rattle.crash_model.specs.declared.disk_bytes.TheConstants.{BLOCK_SIZE}
use Rattle.patch_sets.specs.Sets.{Has}
use Rattle.patch_graph.specs.Graph.{IsGraph}
use Rattle.crash_model.specs.Disk.{Disk, IsDisk}
use Rattle.crash_model.specs.declared.patches.Patch.{Patch}
use Rattle.known_bytes.specs.Family.{Family, IsUndecided, CoversAt}

-- a base and the patches over it
pub record Change : Type 0 where
  pub base : Disk
  pub patches : List Patch

-- For each byte of the base, at 128 * block + offset, the set of the patches that cover it. The patches are a graph and
-- change blocks of the base alone.
pub record AreChains (change : Change) (sets : List ℕ) : Type 0 where
  pub disk : IsDisk change.base
  pub graph : IsGraph change.patches
  pub fits : All (λ p. p.block < change.base.blocks) change.patches
  pub long : length sets ≡ BLOCK_SIZE * change.base.blocks
  pub exactly : (block offset id : ℕ) → block < change.base.blocks → offset < BLOCK_SIZE
      → (Has (slice_index sets (BLOCK_SIZE * block + offset)) id ↔ CoversAt change.patches id block offset)

-- there are such sets
pub record HasChains (change : Change) : Type 0 where
  pub sets : List ℕ
  pub are : AreChains change sets

-- the base and the patches of a family have them, and the set has the patches that are undecided
pub record IsSplit (f : Family) (undecided : ℕ) : Type 0 where
  pub chains : HasChains record { base = f.base; patches = f.patches }
  pub exactly : (id : ℕ) → (Has undecided id ↔ IsUndecided f id)

-- an id is added to the sets at places from one on
pub record AddsFrom (id from count : ℕ) (old new : List ℕ) : Type 0 where
  pub long : length new ≡ length old
  pub exactly : (place q : ℕ) → place < length old → (Has (slice_index new place) q
      ↔ (Has (slice_index old place) q ⊎ ((q ≡ id) × (from ≤ place) × (place < from + count))))
