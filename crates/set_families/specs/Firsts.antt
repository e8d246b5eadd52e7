-- The first set in canonical order of which a fact holds.
use Rattle.std.specs.Prelude.{◌≢◌, ℕ, Option, MatchOption}
use Rattle.patch_sets.specs.Sets.{IsBefore}

-- P holds of the set, which comes before each other set that P holds of
pub record IsFirst (P : ℕ → Type 0) (set : ℕ) : Type 0 where
  pub inside : P set
  pub before : (other : ℕ) → P other → other ≢ set → IsBefore set other

-- the first set that P holds of, or none where P holds of none
abbrev pub IsFirstIfAny : (ℕ → Type 0) → Option ℕ → Type 0
IsFirstIfAny P first = MatchOption first ((set : ℕ) → ¬ (P set)) (IsFirst P)
