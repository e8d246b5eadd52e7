-- What a walk over the ready ids of a closed set keeps.
use Rattle.std.specs.Prelude.{◌≡◌, ℕ, ◌<◌, ◌≤◌, ◌⊎◌, List, length, slice_index}
use Rattle.patch_sets.specs.Sets.{Has, ids_below}
use Rattle.patch_sets.specs.Ready.{IsReady, is_ready}

-- What is left of the ids outside a set: none is below `from`, each dependency of one is in the set or is left, and
-- each ready id from there on is left.
pub record IsFront (deps : List ℕ) (set front from : ℕ) : Type 0 where
  pub known : (q : ℕ) → Has front q → (q < length deps) × ¬ (Has set q)
  pub whole : (q d : ℕ) → Has front q → Has (slice_index deps q) d → Has set d ⊎ Has front d
  pub above : (q : ℕ) → Has front q → from ≤ q
  pub every : (q : ℕ) → from ≤ q → IsReady deps set q → Has front q

-- k ready ids have come, and those that are left have not
pub record Leaves (deps : List ℕ) (set front count : ℕ) : Type 0 where
  pub from : ℕ
  pub within : from ≤ length deps
  pub few : count ≤ from
  pub is : IsFront deps set front from
  pub counted : count ≡ length (ids_below from (is_ready deps set))
