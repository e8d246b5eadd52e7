-- The ends of a set, and sets with fewer ids.
use Rattle.std.specs.Prelude.{◌≢◌, ℕ, ◌≤◌, ◌↔◌}
use Rattle.patch_sets.specs.Sets.{Has}

pub record IsLowest (set id : ℕ) : Type 0 where
  pub inside : Has set id
  pub least : (other : ℕ) → Has set other → id ≤ other

pub record IsHighest (set id : ℕ) : Type 0 where
  pub inside : Has set id
  pub most : (other : ℕ) → Has set other → other ≤ id

-- the rest has all ids of the set but one
pub record IsWithout (set id rest : ℕ) : Type 0 where
  pub gone : ¬ (Has rest id)
  pub others : (q : ℕ) → q ≢ id → (Has rest q ↔ Has set q)

-- the ids of a set that another does not have
pub record IsDifference (set other difference : ℕ) : Type 0 where
  pub exactly : (id : ℕ) → (Has difference id ↔ (Has set id × ¬ (Has other id)))
