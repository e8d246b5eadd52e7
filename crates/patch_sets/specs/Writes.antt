-- The block writes that are shown for a set: its ids in ascending order, cut into longest runs of one block.
use Rattle.std.specs.Prelude.{◌≡◌, ◌≢◌, ℕ, ◌+◌, ◌<◌, List, [], ◌∷◌, length, map, flat_map, slice_index}
use Rattle.patch_sets.specs.Sets.{Has, ids_of}
use Rattle.patch_sets.specs.Machine.{Event, Begin, End}
use Rattle.patch_sets.specs.declared.write.BlockWrite.{BlockWrite}

abbrev pub ids_at : List BlockWrite → ℕ → ℕ
ids_at writes i = slice_index (map (λ w. w.ids) writes) i

abbrev pub block_at : List BlockWrite → ℕ → ℕ
block_at writes i = slice_index (map (λ w. w.block) writes) i

-- laid end to end the writes are the ascending ids; each is a set of ids of one block, and not empty; neighbours differ
-- in block
pub record AreRuns (homes : List ℕ) (set : ℕ) (writes : List BlockWrite) : Type 0 where
  pub in_order : flat_map (λ w. ids_of (length homes) w.ids) writes ≡ ids_of (length homes) set
  pub one_block : (i id : ℕ) → i < length writes → Has (ids_at writes i) id → (id < length homes)
      × (slice_index homes id ≡ block_at writes i)
  pub some : (i : ℕ) → i < length writes → ids_at writes i ≢ 0
  pub longest : (i : ℕ) → i + 1 < length writes → block_at writes i ≢ block_at writes (i + 1)

-- each write is a beginning and its end
abbrev pub events_of : List BlockWrite → List Event
events_of [] = []
events_of (w ∷ ws) = Begin w.block w.ids ∷ End w.block ∷ events_of ws
