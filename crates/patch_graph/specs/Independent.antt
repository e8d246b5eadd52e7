-- For each id of a graph, the ids that do not depend on it.
use Rattle.std.specs.Prelude.{◌≡◌, ◌≢◌, ℕ, ◌<◌, ◌≤◌, ◌⊎◌, ◌↔◌, List, length, slice_index}
use Rattle.patch_sets.specs.Sets.{Has, IsSubset}
use Rattle.patch_sets.specs.Ends.{IsWithout}
use Rattle.crash_model.specs.declared.patches.TheConstants.{MAX_PATCHES}

-- Each id has a mask of the ids that do not rest on it. An id rests on itself; another rests on it if it depends
-- on one that does. Where the graph lacks one of the two ids, the mask has the other.
pub record AreIndependent (deps independent : List ℕ) : Type 0 where
  pub sized : length independent ≡ MAX_PATCHES
  pub itself : (p : ℕ) → p < length deps → ¬ (Has (slice_index independent p) p)
  pub exactly : (p q : ℕ) → p < length deps → q < length deps → p ≢ q
      → (Has (slice_index independent p) q ↔ IsSubset (slice_index deps q) (slice_index independent p))
  pub fresh : (p q : ℕ) → p < MAX_PATCHES → q < 128 → (length deps ≤ p) ⊎ (length deps ≤ q)
      → Has (slice_index independent p) q

-- an id with these dependencies is taken out of the masks of those of the first n ids on which it rests
pub record StandsOn (id own n : ℕ) (before after : List ℕ) : Type 0 where
  pub sized : length after ≡ length before
  pub independent : (p : ℕ) → p < n → IsSubset own (slice_index before p) → slice_index after p ≡ slice_index before p
  pub standing : (p : ℕ) → p < n → ¬ (IsSubset own (slice_index before p))
      → IsWithout (slice_index before p) id (slice_index after p)
  pub rest : (p : ℕ) → n ≤ p → slice_index after p ≡ slice_index before p

-- an id with these dependencies is taken out of the masks of the ids on which it rests, including its own
pub record AddsId (id own : ℕ) (before after : List ℕ) : Type 0 where
  pub sized : length after ≡ length before
  pub independent : (p : ℕ) → p < id → IsSubset own (slice_index before p) → slice_index after p ≡ slice_index before p
  pub standing : (p : ℕ) → p < id → ¬ (IsSubset own (slice_index before p))
      → IsWithout (slice_index before p) id (slice_index after p)
  pub itself : IsWithout (slice_index before id) id (slice_index after id)
  pub rest : (p : ℕ) → id < p → slice_index after p ≡ slice_index before p
