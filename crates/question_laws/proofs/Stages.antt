-- An answer as what comes of the script, its base, its trace and its graph, one after another.
use Rattle.std.proofs.Common.{◌≡◌, ℕ, List, refl, sym, subst, inl, inr}
use Rattle.std.specs.Prelude.{◌⊎◌, Result, Ok, Err}
use Rattle.report.specs.Answers.{Answer, Refused, Reported}
use Rattle.report.specs.OnGraphs.{IsReport}
use Rattle.question_model.specs.Reported.{IsReported}
use Rattle.question_model.specs.Refusals.{IsSetsRefusal, untraced, too_many}
use Rattle.question_model.specs.ScriptGraph.{HasBase, HasGraph, ordering_rules, asked_by}
use Rattle.question_model.specs.Refusals.{IsUntraced, bad_script, bad_geometry, bad_base, bad_trace}
use Rattle.crash_model.specs.Disk.{Disk, IsGeometry}
use Rattle.crash_model.specs.Generations.{new_disk}
use Rattle.crash_model.specs.Patches.{ExceedsLimit}
use Rattle.crash_model.specs.Refusals.{run_of_script, run_of_trace}
use Rattle.crash_model.specs.Script.{IsScript}
use Rattle.crash_model.specs.ScriptRefusals.{IsScriptRefusal}
use Rattle.crash_model.specs.Checker.{Demands, AreDemands}
use Rattle.crash_model.specs.Trace.{trace_from, base_from, IsGraphOf}
use Rattle.crash_model.specs.Tracing.{Tracing, trace_start}
use Rattle.crash_model.specs.declared.patches.Patch.{Patch}
use Rattle.crash_model.specs.declared.refusals.RunFault.{RunFault}
use Rattle.crash_model.specs.declared.refusals.RunFault.TheVariants.{BadGeometry, TooMany}
use Rattle.crash_model.specs.declared.refusals.ScriptFault.{ScriptFault}
use Rattle.crash_model.specs.declared.refusals.TraceFault.{TraceFault}
use Rattle.crash_model.specs.declared.settings.Settings.{Settings}
use Rattle.crash_model.specs.declared.steps.Step.{Step}

module _ (settings : Settings) (limit : ℕ) where
  abbrev pub ComesOfGraph : Disk → List Step → Tracing → List Patch → Answer → Type 0
  ComesOfGraph base steps last patches (Refused fault) = ExceedsLimit patches limit × (fault ≡ TooMany)
  ComesOfGraph base steps last patches (Reported text failing) =
      (demands : Demands) × AreDemands (asked_by settings steps) base steps demands
      × IsReport settings limit demands base last patches text failing

  abbrev pub ComesOfTrace : Disk → List Step → Result Tracing TraceFault → Answer → Type 0
  ComesOfTrace base steps (Err fault) answer = answer ≡ Refused (run_of_trace fault)
  ComesOfTrace base steps (Ok last) answer =
      (patches : List Patch) × IsGraphOf (ordering_rules settings) base last patches
      × ComesOfGraph base steps last patches answer

  abbrev pub ComesOfBase : Result Disk TraceFault → List Step → Answer → Type 0
  ComesOfBase (Err fault) steps answer = answer ≡ Refused (run_of_trace fault)
  ComesOfBase (Ok base) steps answer = ComesOfTrace base steps (trace_from settings.module
      (trace_start settings.whole_blocks base) steps)
      answer

  abbrev pub ComesOfSteps : List Step → List Step → Answer → Type 0
  ComesOfSteps before steps answer =
      ((¬ (IsGeometry settings.blocks settings.journal)) × (answer ≡ Refused BadGeometry))
      ⊎ (IsGeometry settings.blocks settings.journal × ComesOfBase
      (base_from (new_disk settings.blocks settings.journal settings.generations) before) steps answer)

  abbrev pub ComesOfScript : List ℕ → Answer → Type 0
  ComesOfScript bytes answer =
      ((fault : ScriptFault) × IsScriptRefusal bytes fault × (answer ≡ Refused (run_of_script fault)))
      ⊎ ((before : List Step) × (steps : List Step) × IsScript bytes before steps × ComesOfSteps before steps answer)

  from_base : (bytes : List ℕ) (base : Disk) (steps : List Step) (answer : Answer) → HasBase bytes settings base steps
      → ComesOfTrace base steps (trace_from settings.module (trace_start settings.whole_blocks base) steps) answer
      → ComesOfScript bytes answer
  from_base bytes base steps answer start comes =
      inr (
        start.before,
        steps,
        start.read,
        inr (
          start.geometry,
          subst (λ r. ComesOfBase r steps answer) (sym start.built) comes,
        ),
      )

  from_graph : (bytes : List ℕ) (base : Disk) (last : Tracing) (patches : List Patch) (answer : Answer)
      → (has : HasGraph bytes settings base last patches)
      → ComesOfGraph base has.steps last patches answer → ComesOfScript bytes answer
  from_graph bytes base last patches answer has comes =
      from_base bytes base has.steps answer has.start (subst (λ r. ComesOfTrace base has.steps r answer) (sym has.run)
      (patches, has.graph, comes))

  untraced_stages : {bytes : List ℕ} {fault : RunFault} → IsUntraced bytes settings fault
      → ComesOfScript bytes (Refused fault)
  untraced_stages (bad_script fault refused) = inl (fault, refused, refl)
  untraced_stages (bad_geometry before steps read none) = inr (before, steps, read, inl (none, refl))
  untraced_stages (bad_base before steps fault read geometry is) =
      inr (
        before,
        steps,
        read,
        inr (
          geometry,
          subst (λ r. ComesOfBase r steps (Refused (run_of_trace fault))) (sym is)
              refl,
        ),
      )
  untraced_stages (bad_trace base steps fault start is) =
      from_base _ base steps _ start (subst (λ r. ComesOfTrace base steps r (Refused (run_of_trace fault))) (sym is)
      refl)

  -- an answer to which sets fail
  abbrev pub IsAnswer : List ℕ → Answer → Type 0
  IsAnswer bytes (Refused fault) = IsSetsRefusal limit bytes settings fault
  IsAnswer bytes (Reported text failing) = IsReported (IsReport settings limit) bytes settings text failing

  refused_stages : {bytes : List ℕ} {fault : RunFault} → IsSetsRefusal limit bytes settings fault
      → ComesOfScript bytes (Refused fault)
  refused_stages (untraced fault is) = untraced_stages is
  refused_stages (too_many base last patches has more) = from_graph _ base last patches _ has (more, refl)

  pub stages : (bytes : List ℕ) (answer : Answer) → IsAnswer bytes answer → ComesOfScript bytes answer
  stages bytes (Refused fault) is = refused_stages is
  stages bytes (Reported text failing) is =
      from_graph _ is.base is.last is.patches _ is.graph (is.demands, is.demanded, is.report)
