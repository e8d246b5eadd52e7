-- Why a question about a script is refused.
use Rattle.std.specs.Prelude.{◌≡◌, ℕ, List, Err}
use Rattle.crash_model.specs.Disk.{Disk, IsGeometry}
use Rattle.crash_model.specs.Generations.{new_disk}
use Rattle.crash_model.specs.Patches.{ExceedsLimit}
use Rattle.crash_model.specs.Refusals.{run_of_script, run_of_trace}
use Rattle.crash_model.specs.Tracing.{Tracing, trace_start}
use Rattle.crash_model.specs.Trace.{trace_from, base_from}
use Rattle.crash_model.specs.Script.{IsScript}
use Rattle.crash_model.specs.ScriptRefusals.{IsScriptRefusal}
use Rattle.crash_model.specs.declared.patches.Patch.{Patch}
use Rattle.crash_model.specs.declared.settings.Settings.{Settings}
use Rattle.crash_model.specs.declared.steps.Step.{Step}
use Rattle.crash_model.specs.declared.refusals.ScriptFault.{ScriptFault}
use Rattle.crash_model.specs.declared.refusals.TraceFault.{TraceFault}
use Rattle.crash_model.specs.declared.refusals.RunFault.{RunFault}
use Rattle.crash_model.specs.declared.refusals.RunFault.TheVariants.{BadGeometry, TooMany}
use Rattle.question_model.specs.ScriptGraph.{HasBase, HasGraph}

-- a script has no graph: the first of these four reasons that holds
pub data IsUntraced (bytes : List ℕ) (settings : Settings) : RunFault → Type 0 where
  bad_script : (fault : ScriptFault) → IsScriptRefusal bytes fault → IsUntraced bytes settings (run_of_script fault)
  bad_geometry : (before steps : List Step) → IsScript bytes before steps
      → ¬ (IsGeometry settings.blocks settings.journal)
      → IsUntraced bytes settings BadGeometry
  bad_base : (before steps : List Step) (fault : TraceFault) → IsScript bytes before steps
      → IsGeometry settings.blocks settings.journal
      → base_from (new_disk settings.blocks settings.journal settings.generations) before ≡ Err fault
      → IsUntraced bytes settings (run_of_trace fault)
  bad_trace : (base : Disk) (steps : List Step) (fault : TraceFault) → HasBase bytes settings base steps
      → trace_from settings.module (trace_start settings.whole_blocks base) steps ≡ Err fault
      → IsUntraced bytes settings (run_of_trace fault)

-- a script whose failing sets are not reported: the first of these two reasons that holds
pub data IsSetsRefusal (limit : ℕ) (bytes : List ℕ) (settings : Settings) : RunFault → Type 0 where
  untraced : (fault : RunFault) → IsUntraced bytes settings fault → IsSetsRefusal limit bytes settings fault
  too_many : (base : Disk) (last : Tracing) (patches : List Patch) → HasGraph bytes settings base last patches
      → ExceedsLimit patches limit
      → IsSetsRefusal limit bytes settings TooMany
