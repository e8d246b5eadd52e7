-- When the full journal recovers, and what fails then. Its rules are there, and the disk that it begins with is sound.
use Rattle.std.specs.Prelude.{◌≡◌, ℕ, List, Bool, Ok}
use Rattle.std.specs.List.{All}
use Rattle.crash_model.specs.Checker.{Asked, Demands, AreDemands, IsFailingUnder}
use Rattle.crash_model.specs.Disk.{Disk, IsDisk}
use Rattle.crash_model.specs.RuleFacts.{AreAmong}
use Rattle.crash_model.specs.Rules.{rules_of}
use Rattle.crash_model.specs.Sound.{IsSound, HasZeroJournal}
use Rattle.crash_model.specs.Trace.{trace_from}
use Rattle.crash_model.specs.Tracing.{trace_start}
use Rattle.crash_model.specs.declared.modules.Module.{Module}
use Rattle.crash_model.specs.declared.modules.Module.TheVariants.{Full}
use Rattle.crash_model.specs.declared.patches.Patch.{Patch}
use Rattle.crash_model.specs.declared.rules.Rule.{Rule}
use Rattle.crash_model.specs.declared.steps.Step.{Step}
use Rattle.order_modules.specs.Tracer.{Trace, GivesNames}
use Rattle.promise_laws.specs.Waited.{RiskNoPromise}

-- the ordering is the full journal with all its rules, and perhaps others
pub record IsFullJournal (ordering : Module) (rules : List Rule) : Type 0 where
  pub full : ordering ≡ Full
  pub all : AreAmong (rules_of Full) rules

-- a trace of these steps
pub record IsTraceOf (ordering : Module) (rules : List Rule) (whole : Bool) (base : Disk) (steps : List Step)
    (t : Trace) : Type 0 where
  pub over : t.log.base ≡ base
  pub by : t.log.rules ≡ rules
  pub names : All GivesNames steps
  pub traced : trace_from ordering (trace_start whole base) steps ≡ Ok t.tracing

-- the steps are traced under the full journal, over a sound disk with a zero journal
pub record IsRecoverable (ordering : Module) (rules : List Rule) (base : Disk) : Type 0 where
  pub journal : IsFullJournal ordering rules
  pub disk : IsDisk base
  pub sound : IsSound base
  pub zeros : HasZeroJournal base

-- whatever is demanded, no set that a crash can leave fails if no promise of the steps is at risk
abbrev pub FailAtRiskAlone : Disk → List Step → List Patch → Type 0
FailAtRiskAlone base steps patches =
    (asked : Asked) (demands : Demands) → asked.kind ≡ Full → AreDemands asked base steps demands
    → RiskNoPromise asked steps → (set : ℕ) → ¬ (IsFailingUnder demands base patches set)
