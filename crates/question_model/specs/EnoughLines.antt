-- Which of a script's lines that wait are enough, where all rules stay. A set of these lines is the set of their places
-- among all that wait.
use Rattle.std.specs.Prelude.{◌≢◌, ℕ, ◌-◌, ◌^◌, List, length, if◌then◌else◌, None, slice_get}
use Rattle.patch_sets.specs.Ends.{IsDifference}
use Rattle.patch_sets.specs.Sets.{has, IsSubset}
use Rattle.crash_model.specs.ChosenWaits.{tracing_waiting, demands_waiting}
use Rattle.crash_model.specs.Disk.{Disk}
use Rattle.crash_model.specs.Lists.{some_below}
use Rattle.crash_model.specs.OtherRules.{HasGraphBy}
use Rattle.crash_model.specs.Checker.{Demands, IsFailingUnder}
use Rattle.crash_model.specs.Tracing.{Tracing}
use Rattle.crash_model.specs.Waiting.{Wait}
use Rattle.crash_model.specs.declared.rules.Rule.{Rule}

-- the lines of a set, in order, and the set of all
abbrev pub waits_in : List Wait → ℕ → List Wait
waits_in waits lines = some_below (length waits) (λ place. if has lines place then slice_get waits place else None)

abbrev pub all_waits : List Wait → ℕ
all_waits waits = 2 ^ length waits - 1

-- the lines of the set are enough: no closed set fails if only they wait
abbrev pub AreEnoughLines : Demands → Disk → List Rule → Tracing → ℕ → Type 0
AreEnoughLines demands base rules s lines =
    HasGraphBy rules base (tracing_waiting lines s)
    (λ patches. (set : ℕ) → ¬ (IsFailingUnder (demands_waiting s.waits lines demands) base patches set))

-- a minimal set of lines that are enough: those of no smaller part are
pub record IsMinimalLines (demands : Demands) (base : Disk) (rules : List Rule) (s : Tracing) (lines : ℕ) : Type 0 where
  pub places : IsSubset lines (all_waits s.waits)
  pub enough : AreEnoughLines demands base rules s lines
  pub minimal : (part : ℕ) → IsSubset part lines → part ≢ lines → ¬ (AreEnoughLines demands base rules s part)

-- a minimal group of lines of which one is needed: all lines but the group are not enough, and all but a smaller part
-- of it are
pub record IsNeededLines (demands : Demands) (base : Disk) (rules : List Rule) (s : Tracing) (group : ℕ) : Type 0 where
  pub places : IsSubset group (all_waits s.waits)
  pub some : group ≢ 0
  pub needed : (rest : ℕ) → IsDifference (all_waits s.waits) group rest → ¬ (AreEnoughLines demands base rules s rest)
  pub minimal : (part rest : ℕ) → IsSubset part group → part ≢ group → IsDifference (all_waits s.waits) part rest
      → AreEnoughLines demands base rules s rest
