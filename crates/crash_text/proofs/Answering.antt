-- What the parts of a run find makes its answer.
use Rattle.std.proofs.Common.{◌≡◌, ℕ, ◌≤◌, List, length, Ok, Err, Some, ap, subst, sym, inl, inr, ◌∙◌}
use Rattle.std.specs.Prelude.{slice_get}
use Rattle.report.specs.Answers.{Refused, Reported, IsAnswerTo}
use Rattle.report.specs.OnGraphs.{IsReport}
use Rattle.question_model.specs.Reported.{IsReported}
use Rattle.question_model.specs.Refusals.{untraced, too_many}
use Rattle.question_model.specs.ScriptGraph.{HasBase, HasGraph, asked_by}
use Rattle.question_model.specs.Refusals.{IsUntraced, bad_script, bad_geometry, bad_base, bad_trace}
use Rattle.crash_model.specs.Checker.{Demands}
use Rattle.crash_model.specs.Disk.{Disk, IsGeometry}
use Rattle.crash_model.specs.Generations.{new_disk}
use Rattle.crash_model.specs.Refusals.{run_of_script, run_of_trace}
use Rattle.crash_model.specs.Script.{IsScript}
use Rattle.crash_model.specs.ScriptRefusals.{IsScriptRefusal}
use Rattle.crash_model.specs.Trace.{base_from, trace_from}
use Rattle.crash_model.specs.Tracing.{Tracing, trace_start}
use Rattle.crash_model.specs.ChosenWaits.{up_to_wait}
use Rattle.crash_model.specs.Waiting.{Wait}
use Rattle.crash_model.specs.Patches.{ExceedsLimit}
use Rattle.crash_model.specs.declared.patches.Patch.{Patch}
use Rattle.crash_model.specs.declared.refusals.RunFault.{RunFault}
use Rattle.crash_model.specs.declared.refusals.RunFault.TheVariants.{BadGeometry, GroupFault, TooMany}
use Rattle.crash_model.specs.declared.refusals.ScriptFault.{ScriptFault}
use Rattle.crash_model.specs.declared.refusals.TraceFault.{TraceFault}
use Rattle.crash_model.specs.declared.settings.Settings.{Settings}
use Rattle.crash_model.specs.declared.steps.Step.{Step}
use Rattle.question_model.specs.declared.question.Question.{Question}
use Rattle.question_model.specs.declared.question.Question.TheVariants.{FailingSets, Decide, Enough}
use Rattle.question_model.specs.declared.question.Question.TheVariants.{EnoughLines, Search, SearchRules}
use Rattle.question_model.specs.declared.question.TheConstants.{MAX_SYNCS}
use Rattle.question_model.specs.LinesRefusal as lines
use Rattle.question_model.specs.LinesRefusal.{IsLinesRefusal}
use Rattle.question_model.specs.declared.length.WorkloadLength.{WorkloadLength}
use Rattle.question_model.specs.SearchRefusal.{IsSearchRefusal, before_the_pool, no_operation}
use Rattle.uniqueness_laws.proofs.FewWaits.{whole_if_cut_traced}
use Rattle.uniqueness_laws.proofs.Scripts.{read_or_refused, script_one}
use Rattle.crash_text.specs.BaseRefusal.{IsBaseRefusal}
use Rattle.crash_text.specs.Lines.{HasTooManyWaits}
use Rattle.crash_text.specs.Searching.{IsPoolRefusal, IsSearchOf}
use Rattle.crash_text.specs.SearchingRules.{IsRuleSearchOf}
use Rattle.promise_laws.specs.Waited.{RiskNoPromise}
use Rattle.crash_text.specs.Traced.{IsTraced, IsTraceRefusal, IsReportOn, RisksNothing}
use Rattle.crash_text.specs.Traced.{BreakAtRiskAlone, FindsRisksAlone}
use Rattle.crash_text.specs.declared.traced_script.TracedScript.{TracedScript}

module _ (bytes : List ℕ) (settings : Settings) where
  abbrev formatted : Disk
  formatted = new_disk settings.blocks settings.journal settings.generations

  -- where a script is read and its base built, the answer has that base
  pub has_base : (before built steps : List Step) (base : Disk) → IsScript bytes before steps
      → IsGeometry settings.blocks settings.journal → built ≡ before → base_from formatted built ≡ Ok base
      → HasBase bytes settings base steps
  has_base before built steps base read geometry same is = record {
    before = before;
    read = read;
    geometry = geometry;
    built = subst (λ (s : List Step). base_from formatted s ≡ Ok base) same is;
  }

  -- no promise of its steps is at risk
  pub nothing_at_risk : (base : Disk) (steps seen : List Step) → HasBase bytes settings base steps → seen ≡ steps
      → RisksNothing Decide bytes settings → RiskNoPromise (asked_by settings seen) seen
  nothing_at_risk base steps seen start same nothing =
      subst (λ (s : List Step). RiskNoPromise (asked_by settings s) s) (sym same) (nothing base steps start)

  -- a script has one base, and one list of steps after it
  base_one : (base other : Disk) (steps more : List Step) → HasBase bytes settings base steps
      → HasBase bytes settings other more → (base ≡ other) × (steps ≡ more)
  base_one base other steps more start begun =
      let same = script_one bytes start.before steps begun.before more start.read begun.read in
      let built : base_from formatted start.before ≡ Ok other =
      subst (λ (before : List Step). base_from formatted before ≡ Ok other) (sym same.0) begun.built in
      let one : base ≡ other = let a = start.built in cc in
      (one, same.1)

  -- so what is found of its steps is found of the script
  pub finds_risks : (base : Disk) (steps seen : List Step) → HasBase bytes settings base steps → seen ≡ steps
      → BreakAtRiskAlone settings base seen → FindsRisksAlone Decide bytes settings
  finds_risks base steps seen start same alone other more begun =
      let one = base_one base other steps more start begun in
      subst (λ (d : Disk). BreakAtRiskAlone settings d more) one.0
      (subst (BreakAtRiskAlone settings base) (same ∙ one.1) alone)

  -- there is no base, so no step after the start line is asked about
  abbrev HasNone : Type 0
  HasNone = (base : Disk) (steps : List Step) → ¬ (HasBase bytes settings base steps)

  -- without a base each question is refused alike
  refused_to : (question : Question) (fault : RunFault) → HasNone → IsUntraced bytes settings fault
      → IsAnswerTo question bytes settings (Refused fault)
  refused_to (FailingSets limit) fault none is = untraced fault is
  refused_to Decide fault none is = is
  refused_to Enough fault none is = is
  refused_to EnoughLines fault none is = lines.before_the_trace fault is none
  refused_to (Search longest) fault none is = before_the_pool fault is none
  refused_to (SearchRules longest) fault none is = before_the_pool fault is none

  pub refused_script : (question : Question) (fault : ScriptFault) → IsScriptRefusal bytes fault
      → IsAnswerTo question bytes settings (Refused (run_of_script fault))
  refused_script question fault is = refused_to question (run_of_script fault)
      (λ base steps start. read_or_refused bytes start.before steps fault start.read is) (bad_script fault is)

  -- a step before the start line is refused
  no_base : (before steps : List Step) (why : TraceFault) → IsScript bytes before steps
      → base_from formatted before ≡ Err why → HasNone
  no_base before steps why read bad base others start =
      let same : before ≡ start.before = (script_one bytes before steps start.before others read start.read).0 in
      let built : base_from formatted before ≡ Ok base =
      subst (λ (s : List Step). base_from formatted s ≡ Ok base) (sym same)
      start.built in
      cc

  pub refused_base : (question : Question) (before steps : List Step) (fault : RunFault) → IsScript bytes before steps
      → IsBaseRefusal settings before fault → IsAnswerTo question bytes settings (Refused fault)
  refused_base question before steps fault read (inl bad) =
      subst (λ f. IsAnswerTo question bytes settings (Refused f)) (sym bad.1)
      (refused_to question BadGeometry (λ base others start. bad.0 start.geometry)
      (bad_geometry before steps read bad.0))
  refused_base question before steps fault read (inr bad) =
      subst (λ f. IsAnswerTo question bytes settings (Refused f)) (sym bad.1.2)
      (refused_to question (run_of_trace bad.1.0) (no_base before steps bad.1.0 read bad.1.1)
      (bad_base before steps bad.1.0 read bad.0 bad.1.1))

  -- a step after the start line is refused
  pub refused_steps : (base : Disk) (steps : List Step) (fault : RunFault) → HasBase bytes settings base steps
      → IsTraceRefusal settings base steps fault → IsUntraced bytes settings fault
  refused_steps base steps fault start (why, run, same) =
      subst (IsUntraced bytes settings) (sym same) (bad_trace base steps why start run)

  -- a traced script has a graph
  pub has_graph : {A : Type 0} (base : Disk) (steps : List Step) (s : TracedScript A)
      → HasBase bytes settings base steps → (are : IsTraced settings base steps s)
      → HasGraph bytes settings s.base.now are.last s.traced.patches
  has_graph base steps s start are = record {
    steps = steps;
    start = subst (λ (d : Disk). HasBase bytes settings d steps) (sym are.over) start;
    run = are.run;
    graph = are.trace.graph;
  }

  -- and what is reported on it is reported on the script
  pub reported_on : {A : Type 0} (IsOn : Demands → Disk → Tracing → List Patch → List ℕ → ℕ → Type 0) (base : Disk)
      (steps : List Step) (s : TracedScript A) (text : List ℕ) (number : ℕ) → HasBase bytes settings base steps
      → IsTraced settings base steps s → IsReportOn IsOn settings s text number
      → IsReported IsOn bytes settings text number
  unfolding has_graph
  reported_on IsOn base steps s text number start are is = record {
    demands = s.demands;
    base = s.base.now;
    last = are.last;
    patches = s.traced.patches;
    graph = has_graph base steps s start are;
    demanded = are.demanded;
    report = is are.last are.trace;
  }

  -- and more closed sets than the limit are the one other reason not to report the failing sets
  pub refused_sets : {A : Type 0} (limit : ℕ) (base : Disk) (steps : List Step) (s : TracedScript A)
      (fault : RunFault) → HasBase bytes settings base steps → IsTraced settings base steps s → fault ≡ TooMany
      → ExceedsLimit s.traced.patches limit → IsAnswerTo (FailingSets limit) bytes settings (Refused fault)
  refused_sets limit base steps s fault start are same more =
      subst (λ f. IsAnswerTo (FailingSets limit) bytes settings (Refused f)) (sym same)
      (too_many s.base.now are.last s.traced.patches (has_graph base steps s start are) more)

  -- a step up to the limit of lines that wait is refused
  pub refused_lines : (base : Disk) (steps cut : List Step) (fault : RunFault) → HasBase bytes settings base steps
      → cut ≡ up_to_wait MAX_SYNCS steps → IsTraceRefusal settings base cut fault → IsLinesRefusal bytes settings fault
  refused_lines base steps cut fault start is (why, run, same) =
      subst (IsLinesRefusal bytes settings) (sym same) (lines.bad_trace base steps why start
      (subst (λ (seen : List Step). trace_from settings.module (trace_start settings.whole_blocks base) seen ≡ Err why)
      is run))

  -- or the line past it
  pub refused_waits : {A : Type 0} (base : Disk) (steps cut : List Step) (s : TracedScript A) (fault : RunFault)
      → HasBase bytes settings base steps → cut ≡ up_to_wait MAX_SYNCS steps → IsTraced settings base cut s
      → HasTooManyWaits s.traced.waits fault → IsLinesRefusal bytes settings fault
  refused_waits base steps cut s fault start is are (wait, at, same) =
      let run = subst (λ (d : Disk). trace_from settings.module (trace_start settings.whole_blocks d) cut ≡ Ok are.last)
      are.over are.run in
      subst (IsLinesRefusal bytes settings) (sym same) (lines.too_many base steps are.last wait start
      (subst (λ (seen : List Step). trace_from settings.module (trace_start settings.whole_blocks base) seen
      ≡ Ok are.last) is run)
      (subst (λ (waits : List Wait). slice_get waits MAX_SYNCS ≡ Some wait) are.trace.waits at))

  -- and where none is past it, no step is left out
  pub whole_steps : {A : Type 0} (base : Disk) (steps cut : List Step) (s : TracedScript A)
      → cut ≡ up_to_wait MAX_SYNCS steps → IsTraced settings base cut s → length s.traced.waits ≤ MAX_SYNCS
      → cut ≡ steps
  whole_steps base steps cut s is are few =
      let from = trace_start settings.whole_blocks s.base.now in
      is ∙ whole_if_cut_traced settings.module settings.whole_blocks s.base.now MAX_SYNCS steps are.last
      (subst (λ (waits : List Wait). length waits ≤ MAX_SYNCS) are.trace.waits few)
      (subst (λ (seen : List Step). trace_from settings.module from seen ≡ Ok are.last) is are.run)

  -- what refuses a search refuses one for rules too
  pub refused_pool : (base : Disk) (steps : List Step) (fault : RunFault) → HasBase bytes settings base steps
      → IsPoolRefusal steps fault → IsSearchRefusal bytes settings fault
  refused_pool base steps fault start (line, is, same) =
      subst (IsSearchRefusal bytes settings) (sym (same ∙ ap GroupFault is.of_it))
      (no_operation base is.front is.rest is.step (subst (HasBase bytes settings base) is.whole start) is.before
      is.first)

  pub reported_pool : (longest : WorkloadLength) (base : Disk) (steps : List Step) (text : List ℕ) (number : ℕ)
      → HasBase bytes settings base steps → IsSearchOf settings longest base steps text number
      → IsAnswerTo (Search longest) bytes settings (Reported text number)
  reported_pool longest base steps text number start is = record {
    base = base;
    pool = steps;
    start = start;
    operations = is.0;
    report = is.1;
  }

  pub reported_rules : (longest : WorkloadLength) (base : Disk) (steps : List Step) (text : List ℕ) (number : ℕ)
      → HasBase bytes settings base steps → IsRuleSearchOf settings longest base steps text number
      → IsAnswerTo (SearchRules longest) bytes settings (Reported text number)
  reported_rules longest base steps text number start is = record {
    base = base;
    pool = steps;
    start = start;
    operations = is.0;
    report = is.1;
  }
