-- Which promises a script has waited for.
use Rattle.std.specs.Prelude.{◌≡◌, ◌⊎◌, ℕ, List, [], ◌∷◌, ◌++◌, Bool, true, false, Some}
use Rattle.std.specs.List.{list_any, Contains}
use Rattle.patch_sets.specs.Sets.{has}
use Rattle.crash_model.specs.Checker.{Asked}
use Rattle.crash_model.specs.declared.fault.Fault.{Fault}
use Rattle.crash_model.specs.declared.fault.Fault.TheVariants.{BrokenPromise}
use Rattle.crash_model.specs.declared.names.Path.{Path}
use Rattle.crash_model.specs.declared.steps.Act.{Act}
use Rattle.crash_model.specs.declared.steps.Act.TheVariants.{Group, End, Depend, Sync, Fsync, Keep, Hold}
use Rattle.crash_model.specs.declared.steps.Step.{Step}
use Rattle.crash_model.specs.declared.steps.Target.TheVariants.{At}
use Rattle.full_journal_laws.specs.Full.{ops_of}

-- no operation is among the steps
abbrev pub HasNoOperation : List Step → Type 0
HasNoOperation steps = ops_of steps ≡ []

-- lines of groups: none of them is among the steps
abbrev pub is_of_groups : Act → Bool
is_of_groups (Group _) = true
is_of_groups End = true
is_of_groups (Depend _ _) = true
is_of_groups _ = false

abbrev pub HasNoGroups : List Step → Type 0
HasNoGroups steps = list_any (λ x. is_of_groups x.act) steps ≡ false

-- the steps have this act, and no operation behind it
pub record EndBehind (act : Act) (steps : List Step) : Type 0 where
  pub earlier : List Step
  pub step : Step
  pub later : List Step
  pub are : steps ≡ earlier ++ step ∷ later
  pub does : step.act ≡ act
  pub quiet : HasNoOperation later

-- The script waits for the paths of a line `keep` before it makes the promise. Before the line there is no operation,
-- or a `sync` follows the last one. If the line names one path, an `fsync` of this path may follow it in its place.
abbrev pub IsWaitedFor : List Step → List Path → Type 0
IsWaitedFor before paths =
    HasNoOperation before
    ⊎ (EndBehind Sync before ⊎ ((path : Path) × (paths ≡ path ∷ []) × EndBehind (Fsync (At path)) before))

-- The full journal cannot break what an act of a script promises, behind these of its steps: it promises nothing, or
-- what an `fsync` promises, or it is a line `keep` in a script without groups, and the steps before it wait for its
-- paths.
abbrev pub IsSure : List Step → List Step → Act → Type 0
IsSure steps before (Keep paths) = HasNoGroups steps × IsWaitedFor before paths.items
IsSure steps before (Hold path) = ⊥
IsSure steps before _ = Unit {0}

-- this holds of each line with this number, where a script has it
abbrev pub IsSureAt : ℕ → List Step → Type 0
IsSureAt line steps =
    (before : List Step) (x : Step) (after : List Step) → steps ≡ before ++ x ∷ after → x.line ≡ line
    → IsSure steps before x.act

-- of each line of the script
abbrev pub AreSure : List Step → Type 0
AreSure steps = (line : ℕ) → IsSureAt line steps

-- No promise of the steps is at risk: each is sure, if there is one, or broken promises are not among the faults that
-- are asked for.
abbrev pub RiskNoPromise : Asked → List Step → Type 0
RiskNoPromise asked steps =
    AreSure steps ⊎ ((counted : ℕ) × (asked.counted ≡ Some counted) × (has counted 10 ≡ false))

-- each of the faults is a broken promise that is at risk: one of a line that is not sure
abbrev pub AreAtRisk : List Step → List Fault → Type 0
AreAtRisk steps faults =
    (fault : Fault) → Contains faults fault → (line : ℕ) × (fault ≡ BrokenPromise line) × ¬ (IsSureAt line steps)
