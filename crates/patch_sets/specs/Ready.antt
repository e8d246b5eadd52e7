-- The ids that may join a set, and the sets that they make of it. A graph is given as in Closed.
use Rattle.std.specs.Prelude.{ℕ, ◌<◌, List, length, map, slice_index, Bool, ◌&&◌, ◌==◌, not, bit_and}
use Rattle.patch_sets.specs.Sets.{Has, has, IsSubset, with_id, ids_below}

-- an id outside the set whose dependencies lie in it
pub record IsReady (deps : List ℕ) (set id : ℕ) : Type 0 where
  pub known : id < length deps
  pub outside : ¬ (Has set id)
  pub depended : IsSubset (slice_index deps id) set

-- the same as a test, of an id of the graph
abbrev pub is_ready : List ℕ → ℕ → ℕ → Bool
is_ready deps set id = not (has set id) && (bit_and (slice_index deps id) set == slice_index deps id)

-- the sets that have one more ready id, by ascending ids
abbrev pub successors_of : List ℕ → ℕ → List ℕ
successors_of deps set = map (with_id set) (ids_below (length deps) (is_ready deps set))
