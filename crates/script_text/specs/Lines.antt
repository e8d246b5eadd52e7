-- The first line of bytes, and all of them.
use Rattle.std.specs.Prelude.{◌≡◌, ℕ, ◌⊎◌, List, [], ◌∷◌, ◌++◌, Contains, if◌then◌else◌, ◌==◌}
use Rattle.crash_model.specs.declared.separators.TheConstants.{LINE_FEED}

-- the bytes up to the first line feed, and those after it
pub record IsFirstLine (bytes line rest : List ℕ) : Type 0 where
  pub plain : ¬ (Contains line LINE_FEED)
  pub whole : (bytes ≡ line ++ (LINE_FEED ∷ rest)) ⊎ ((bytes ≡ line) × (rest ≡ []))

-- the lines with the byte put before the first
abbrev pub before_lines : ℕ → List (List ℕ) → List (List ℕ)
before_lines c [] = (c ∷ []) ∷ []
before_lines c (line ∷ lines) = (c ∷ line) ∷ lines

-- the lines of the bytes; nothing after the last line feed is not a line
abbrev pub lines_of : List ℕ → List (List ℕ)
lines_of [] = []
lines_of (c ∷ cs) = if c == LINE_FEED then [] ∷ lines_of cs else before_lines c (lines_of cs)
