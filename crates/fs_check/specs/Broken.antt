-- The lines of which a promise is broken, one after another.
use Rattle.std.specs.Prelude.{◌≡◌, ℕ, ◌+◌, ◌<◌, ◌≤◌, List, true, false, Option, Some, None}
use Rattle.crash_model.specs.Disk.{Disk}
use Rattle.crash_model.specs.Promises.{Promise, breaks_line}

-- the number behind a line, or 0
abbrev pub line_behind : Option ℕ → ℕ
line_behind None = 0
line_behind (Some line) = line + 1

-- the least line from one number on of which a promise is broken
abbrev pub IsNextBroken : List Promise → ℕ → Disk → ℕ → Option ℕ → Type 0
IsNextBroken promises set d from None = (line : ℕ) → from ≤ line → breaks_line promises set d line ≡ false
IsNextBroken promises set d from (Some next) =
    (from ≤ next) × (breaks_line promises set d next ≡ true)
    × ((line : ℕ) → from ≤ line → line < next → breaks_line promises set d line ≡ false)
