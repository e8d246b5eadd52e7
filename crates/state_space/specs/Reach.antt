-- What finite runs from an initial word reach.
use Rattle.std.specs.Prelude.{◌≡◌, ℕ, zero, suc, List}
use Rattle.std.specs.List.{Contains}

-- a run of n steps leads from the start to the word
abbrev pub IsRun : (ℕ → List ℕ) → ℕ → ℕ → ℕ → Type 0
IsRun next start zero word = word ≡ start
IsRun next start (suc n) word = (before : ℕ) × IsRun next start n before × Contains (next before) word

-- some finite run leads from the start to the word
pub record IsReached (next : ℕ → List ℕ) (start word : ℕ) : Type 0 where
  pub steps : ℕ
  pub run : IsRun next start steps word
