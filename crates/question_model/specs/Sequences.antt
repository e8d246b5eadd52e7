-- Sequences of places of a pool, their order, and how many there are of a kind.
use Rattle.std.specs.Prelude.{◌≡◌, ℕ, ◌<◌, ◌⊎◌, ◌↔◌, List, length}
use Rattle.std.specs.List.{AllPairs, Contains}
use Rattle.std.specs.Ordering.{nat_cmp}
use Rattle.std.specs.Cmp.Lexicographic.{slice_cmp}
use Rattle.std.specs.declared.cmp.Ordering.TheVariants.{Less}

-- fewer places first; if two have equally many, the first place in which they differ decides
abbrev pub IsSequenceBefore : List ℕ → List ℕ → Type 0
IsSequenceBefore a b =
    (length a < length b) ⊎ ((length a ≡ length b) × (slice_cmp nat_cmp a b ≡ Less))

-- the list has exactly the sequences with the property, in order, so each once
pub record AreAllSequences (P : List ℕ → Type 0) (sequences : List (List ℕ)) : Type 0 where
  pub ordered : AllPairs IsSequenceBefore sequences
  pub exactly : (places : List ℕ) → (Contains sequences places ↔ P places)

-- the number of sequences that have the property
abbrev pub CountsSequences : (List ℕ → Type 0) → ℕ → Type 0
CountsSequences P number = (sequences : List (List ℕ)) × AreAllSequences P sequences × (number ≡ length sequences)

-- the first sequence with the property
pub record IsFirstSequence (P : List ℕ → Type 0) (places : List ℕ) : Type 0 where
  pub among : P places
  pub first : (other : List ℕ) → P other → ¬ (IsSequenceBefore other places)
