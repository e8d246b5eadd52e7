-- Why a script is refused of which it is asked which lines have to wait.
use Rattle.std.specs.Prelude.{◌≡◌, ℕ, List, Ok, Err, Some, slice_get}
use Rattle.crash_model.specs.ChosenWaits.{up_to_wait}
use Rattle.crash_model.specs.Disk.{Disk}
use Rattle.crash_model.specs.Refusals.{run_of_trace}
use Rattle.crash_model.specs.Trace.{trace_from}
use Rattle.crash_model.specs.Tracing.{Tracing, trace_start}
use Rattle.crash_model.specs.Waiting.{Wait}
use Rattle.crash_model.specs.declared.refusals.RunFault.{RunFault}
use Rattle.crash_model.specs.declared.refusals.RunFault.TheVariants.{TooManySyncs}
use Rattle.crash_model.specs.declared.refusals.TraceFault.{TraceFault}
use Rattle.crash_model.specs.declared.settings.Settings.{Settings}
use Rattle.crash_model.specs.declared.steps.Step.{Step}
use Rattle.question_model.specs.Refusals.{IsUntraced}
use Rattle.question_model.specs.ScriptGraph.{HasBase}
use Rattle.question_model.specs.declared.question.TheConstants.{MAX_SYNCS}

-- As any other question before the first traced step; or for a step up to and with the first line that waits past the
-- limit; or for that line.
pub data IsLinesRefusal (bytes : List ℕ) (settings : Settings) : RunFault → Type 0 where
  before_the_trace : (fault : RunFault) → IsUntraced bytes settings fault
      → ((base : Disk) (steps : List Step) → ¬ (HasBase bytes settings base steps))
      → IsLinesRefusal bytes settings fault
  bad_trace : (base : Disk) (steps : List Step) (fault : TraceFault) → HasBase bytes settings base steps
      → trace_from settings.module (trace_start settings.whole_blocks base) (up_to_wait MAX_SYNCS steps) ≡ Err fault
      → IsLinesRefusal bytes settings (run_of_trace fault)
  too_many : (base : Disk) (steps : List Step) (last : Tracing) (wait : Wait) → HasBase bytes settings base steps
      → trace_from settings.module (trace_start settings.whole_blocks base) (up_to_wait MAX_SYNCS steps) ≡ Ok last
      → slice_get last.waits MAX_SYNCS ≡ Some wait
      → IsLinesRefusal bytes settings (TooManySyncs wait.line)
