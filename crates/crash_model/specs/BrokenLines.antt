-- The lines whose promises an image breaks.
use Rattle.std.specs.Prelude.{ℕ, ◌+◌, List, [], ◌∷◌, max}
use Rattle.crash_model.specs.Disk.{Disk}
use Rattle.crash_model.specs.Lists.{some_below, when}
use Rattle.crash_model.specs.declared.fault.Fault.{Fault}
use Rattle.crash_model.specs.declared.fault.Fault.TheVariants.{BrokenPromise}
use Rattle.crash_model.specs.Promises.{Promise, breaks_line}

-- the number behind the lines
abbrev pub lines_end : List Promise → ℕ
lines_end [] = 0
lines_end (promise ∷ promises) = max (promise.line + 1) (lines_end promises)

-- by line, each once
unfoldable pub broken_lines : List Promise → ℕ → Disk → List Fault
broken_lines promises set d =
    some_below (lines_end promises) (λ line. when (breaks_line promises set d line) (BrokenPromise line))
