-- A set of ids is a number: id p is in it if bit p of the number is 1.
use Rattle.std.specs.Prelude.{◌≡◌, ℕ, ◌<◌, ◌^◌, ◌⊎◌, ◌↔◌, List, Bool, ◌==◌, filter, count_ones, bit_or}
use Rattle.std.specs.Int.{bit_at}
use Rattle.std.specs.List.{range_with_len, AllPairs, Contains}

-- the id is in the set
abbrev pub Has : ℕ → ℕ → Type 0
Has set id = bit_at set id ≡ 1

-- the same as a test
abbrev pub has : ℕ → ℕ → Bool
has set id = bit_at set id == 1

-- each id of the part is in the whole
abbrev pub IsSubset : ℕ → ℕ → Type 0
IsSubset part whole = (id : ℕ) → Has part id → Has whole id

-- the set with one more id
abbrev pub with_id : ℕ → ℕ → ℕ
with_id set id = bit_or set (2 ^ id)

-- the ids below n that pass a test, ascending
abbrev pub ids_below : ℕ → (ℕ → Bool) → List ℕ
ids_below n passes = filter passes (range_with_len 0 n)

-- the ids below n of a set, ascending
abbrev pub ids_of : ℕ → ℕ → List ℕ
ids_of n set = ids_below n (has set)

-- canonical order: fewer ids first, then the smaller number
abbrev pub IsBefore : ℕ → ℕ → Type 0
IsBefore a b = (count_ones a < count_ones b) ⊎ ((count_ones a ≡ count_ones b) × (a < b))

-- the list has exactly the sets with the property, in canonical order, so each once
pub record AreAllInOrder (P : ℕ → Type 0) (sets : List ℕ) : Type 0 where
  pub ordered : AllPairs IsBefore sets
  pub exactly : (set : ℕ) → (Contains sets set ↔ P set)
