-- Walks over the successors of a word, one after another.
use Rattle.std.specs.Prelude.{◌≡◌, ℕ, ◌+◌, ◌<◌, List, Option, length, slice_index, MatchOption}

-- What a walk answers where the first k of a list have come: the next of the list, and then what it keeps is that of
-- one more; none after the last.
abbrev pub IsNextOf : List ℕ → ℕ → (ℕ → Type 0) → Option ℕ → Type 0
IsNextOf list k keeps answer =
    MatchOption answer (k ≡ length list) (λ (next : ℕ). (k < length list) × (next ≡ slice_index list k) × keeps (k + 1))
