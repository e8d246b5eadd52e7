-- Why a search is refused.
use Rattle.std.specs.Prelude.{ℕ, List, ◌∷◌, ◌++◌}
use Rattle.std.specs.List.{All}
use Rattle.crash_model.specs.Disk.{Disk}
use Rattle.crash_model.specs.declared.refusals.RunFault.{RunFault}
use Rattle.crash_model.specs.declared.refusals.RunFault.TheVariants.{GroupFault}
use Rattle.crash_model.specs.declared.settings.Settings.{Settings}
use Rattle.crash_model.specs.declared.steps.Step.{Step}
use Rattle.question_model.specs.Refusals.{IsUntraced}
use Rattle.question_model.specs.ScriptGraph.{HasBase}
use Rattle.question_model.specs.Workloads.{IsOfPool}

-- as any other question before the first traced step, or for the first line that no pool has
pub data IsSearchRefusal (bytes : List ℕ) (settings : Settings) : RunFault → Type 0 where
  before_the_pool : (fault : RunFault) → IsUntraced bytes settings fault
      → ((base : Disk) (pool : List Step) → ¬ (HasBase bytes settings base pool))
      → IsSearchRefusal bytes settings fault
  no_operation : (base : Disk) (front rest : List Step) (step : Step)
      → HasBase bytes settings base (front ++ step ∷ rest)
      → All IsOfPool front → (¬ (IsOfPool step))
      → IsSearchRefusal bytes settings (GroupFault step.line)
