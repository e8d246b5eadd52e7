-- How many words a fact holds of.
use Rattle.std.specs.Prelude.{◌≡◌, ◌≢◌, ℕ, ◌<◌, List, length}
use Rattle.std.specs.List.{All, AllPairs, Contains}

-- no word is in the list twice, and P holds of each
pub record IsSome (P : ℕ → Type 0) (words : List ℕ) : Type 0 where
  pub distinct : AllPairs (λ x y. x ≢ y) words
  pub each : All P words

-- the list has the words of which P holds, and no others, each once
pub record IsListOf (P : ℕ → Type 0) (words : List ℕ) : Type 0 where
  pub distinct : AllPairs (λ x y. x ≢ y) words
  pub each : All P words
  pub every : (word : ℕ) → P word → Contains words word

-- P holds of n words
abbrev pub HoldsOf : (ℕ → Type 0) → ℕ → Type 0
HoldsOf P n = (words : List ℕ) × IsListOf P words × (length words ≡ n)

-- P holds of more words than the limit
abbrev pub Outnumbers : (ℕ → Type 0) → ℕ → Type 0
Outnumbers P limit = (words : List ℕ) × IsSome P words × (limit < length words)
