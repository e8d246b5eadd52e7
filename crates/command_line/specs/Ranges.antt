-- The ranges of the command line.
use Rattle.std.specs.Prelude.{ℕ, ◌≤◌}
use Rattle.crash_model.specs.declared.disk_bytes.TheConstants.{LEAST_BLOCKS, MOST_BLOCKS}
use Rattle.question_model.specs.declared.question.Request.{Request}

abbrev pub IsWithin : ℕ → ℕ → ℕ → Type 0
IsWithin from until n = (from ≤ n) × (n ≤ until)

-- a question has its own range
abbrev pub IsInRanges : Request → Type 0
IsInRanges r =
    IsWithin LEAST_BLOCKS MOST_BLOCKS r.settings.blocks × IsWithin 0 122 r.settings.journal × IsWithin 1 16 r.workers
