-- Traced scripts, and the reports on them.
use Rattle.std.specs.Prelude.{◌≡◌, ℕ, List, Ok, Err}
use Rattle.question_model.specs.ScriptGraph.{HasBase, asked_by, ordering_rules}
use Rattle.patch_sets.specs.Closed.{IsClosed}
use Rattle.crash_model.specs.Checker.{Demands, AreDemands, IsFailingUnder, all_faults}
use Rattle.crash_model.specs.Disk.{Disk}
use Rattle.crash_model.specs.Patches.{deps_of, image_of}
use Rattle.crash_model.specs.Reasons.{ExplainedPatch, explained_patches}
use Rattle.crash_model.specs.Refusals.{run_of_trace}
use Rattle.crash_model.specs.Replay.{image_after_replay}
use Rattle.crash_model.specs.Trace.{trace_from, IsGraphOf}
use Rattle.crash_model.specs.Tracing.{Tracing, trace_start}
use Rattle.crash_model.specs.declared.orderings.Ordering.{Ordering}
use Rattle.crash_model.specs.declared.patches.Patch.{Patch}
use Rattle.crash_model.specs.declared.refusals.RunFault.{RunFault}
use Rattle.crash_model.specs.declared.refusals.TraceFault.{TraceFault}
use Rattle.crash_model.specs.declared.settings.Asked.{Asked}
use Rattle.crash_model.specs.declared.settings.Settings.{Settings}
use Rattle.crash_model.specs.declared.steps.Step.{Step}
use Rattle.traced_patches.specs.Traced.{TracedPatches}
use Rattle.promise_laws.specs.Waited.{RiskNoPromise, AreAtRisk}
use Rattle.question_model.specs.declared.question.Question.{Question}
use Rattle.question_model.specs.declared.question.Question.TheVariants.{Search, SearchRules}
use Rattle.crash_text.specs.declared.traced_script.TracedScript.{TracedScript}

-- the ordering that the settings ask for
pub record IsOrderingOf (settings : Settings) (ordering : Ordering) : Type 0 where
  pub kind : ordering.«module» ≡ settings.«module»
  pub whole : ordering.whole_blocks ≡ settings.whole_blocks
  pub rules : ordering.rules.items ≡ ordering_rules settings

-- what the settings ask of the checker, as the program has it
abbrev pub asks_of : Settings → Asked
asks_of settings = record {
  strict = settings.strict;
  atomic = settings.atomic;
  durable = settings.durable;
  counted = settings.counted;
}

-- traced patches, with the state in which tracing ended
pub record IsTraceOf (settings : Settings) (base : Disk) (t : TracedPatches) (last : Tracing) : Type 0 where
  pub emitted : t.emitted ≡ last.emitted
  pub links : t.links ≡ last.links
  pub whole : t.whole ≡ last.whole
  pub waits : t.waits ≡ last.waits
  pub rules : t.rules ≡ ordering_rules settings
  pub graph : IsGraphOf (ordering_rules settings) base last t.patches

-- the steps are traced over the base, and what they demand of images is known
pub record IsTraced {A : Type 0} (settings : Settings) (base : Disk) (steps : List Step) (s : TracedScript A)
    : Type 0 where
  pub over : s.base.now ≡ base
  pub last : Tracing
  pub run : trace_from settings.module (trace_start settings.whole_blocks s.base.now) steps ≡ Ok last
  pub trace : IsTraceOf settings s.base.now s.traced last
  pub demanded : AreDemands (asked_by settings steps) s.base.now steps s.demands

-- a step is refused
abbrev pub IsTraceRefusal : Settings → Disk → List Step → RunFault → Type 0
IsTraceRefusal settings base steps fault =
    (why : TraceFault) × (trace_from settings.module (trace_start settings.whole_blocks base) steps ≡ Err why)
    × (fault ≡ run_of_trace why)

-- no set that a crash can leave fails
abbrev pub NoneFails : {A : Type 0} → TracedScript A → Type 0
NoneFails s = (set : ℕ) → ¬ (IsFailingUnder s.demands s.base.now s.traced.patches set)

-- no promise of the steps behind the start line is at risk; in a search none is, since each workload makes its promises
-- before its first step
abbrev pub RisksNothing : Question → List ℕ → Settings → Type 0
RisksNothing (Search longest) bytes settings = Unit {0}
RisksNothing (SearchRules longest) bytes settings = Unit {0}
RisksNothing _ bytes settings =
    (base : Disk) (steps : List Step) → HasBase bytes settings base steps
    → RiskNoPromise (asked_by settings steps) steps

-- Whatever a crash leaves of these steps, each fault of its image after replay is a broken promise that is at risk,
-- whether it counts or not.
abbrev pub BreakAtRiskAlone : Settings → Disk → List Step → Type 0
BreakAtRiskAlone settings base steps =
    (last : Tracing) (patches : List Patch) (demands : Demands)
    → trace_from settings.module (trace_start settings.whole_blocks base) steps ≡ Ok last
    → IsGraphOf (ordering_rules settings) base last patches → AreDemands (asked_by settings steps) base steps demands
    → (set : ℕ) → IsClosed (deps_of patches) set
    → AreAtRisk steps (all_faults demands set (image_after_replay (image_of base patches set)))

-- so of the steps behind the start line; in a search no promise is at risk
abbrev pub FindsRisksAlone : Question → List ℕ → Settings → Type 0
FindsRisksAlone (Search longest) bytes settings = Unit {0}
FindsRisksAlone (SearchRules longest) bytes settings = Unit {0}
FindsRisksAlone _ bytes settings =
    (base : Disk) (steps : List Step) → HasBase bytes settings base steps → BreakAtRiskAlone settings base steps

-- the text and the number are those of such a report on a traced script, whatever state traced its patches
abbrev pub IsReportOn : {A : Type 0} → (Demands → Disk → Tracing → List Patch → List ℕ → ℕ → Type 0) → Settings
    → TracedScript A → List ℕ → ℕ → Type 0
IsReportOn IsOn settings s text number =
    (last : Tracing) → IsTraceOf settings s.base.now s.traced last
    → IsOn s.demands s.base.now last s.traced.patches text number

-- what each of the patches is
abbrev pub trace_of : TracedPatches → List ExplainedPatch
trace_of t = explained_patches t.rules t.whole t.links t.emitted t.patches
