-- The sets that have all dependencies of their members. A graph is given by a list that has, for each id,
-- the set of the ids that it depends on. (Frost et al., SOSP 2007: disk safety)
use Rattle.std.specs.Prelude.{ℕ, ◌<◌, List, length, slice_index}
use Rattle.patch_sets.specs.Sets.{Has}

-- patches depend on patches with smaller ids
abbrev pub AreEarlier : List ℕ → Type 0
AreEarlier deps = (q p : ℕ) → Has (slice_index deps q) p → p < q

-- a set of the graph's ids that has all dependencies of its members
pub record IsClosed (deps : List ℕ) (set : ℕ) : Type 0 where
  pub known : (id : ℕ) → Has set id → id < length deps
  pub whole : (q p : ℕ) → Has set q → Has (slice_index deps q) p → Has set p
