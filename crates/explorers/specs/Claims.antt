-- How many claims an exploration makes.
use Rattle.std.specs.Prelude.{ℕ, ◌≤◌, List, length}
use Rattle.state_space.specs.Counts.{IsSome}

-- P holds of at least n words
abbrev pub HoldsOfAtLeast : (ℕ → Type 0) → ℕ → Type 0
HoldsOfAtLeast P n = (words : List ℕ) × IsSome P words × (n ≤ length words)
