-- There is at most one answer to which of a script's lines have to wait.
use Rattle.std.proofs.Common.{◌≡◌, ℕ, ◌<◌, ◌≤◌, List, length, arith, refl, sym, subst, ap, ◌∙◌}
use Rattle.std.specs.Prelude.{Result, Ok, Err, Some, slice_get}
use Rattle.std.proofs.lemmas.Option.{slice_get_within}
use Rattle.report.specs.Answers.{Answer, Refused, Reported}
use Rattle.question_model.specs.Reported.{IsReported}
use Rattle.question_model.specs.ScriptGraph.{HasBase}
use Rattle.crash_model.specs.ChosenWaits.{up_to_wait}
use Rattle.crash_model.specs.Disk.{Disk}
use Rattle.crash_model.specs.Refusals.{run_of_trace}
use Rattle.crash_model.specs.Trace.{trace_from}
use Rattle.crash_model.specs.Tracing.{Tracing, trace_start}
use Rattle.crash_model.specs.Waiting.{Wait}
use Rattle.crash_model.specs.declared.refusals.RunFault.{RunFault}
use Rattle.crash_model.specs.declared.refusals.RunFault.TheVariants.{TooManySyncs}
use Rattle.crash_model.specs.declared.refusals.TraceFault.{TraceFault}
use Rattle.crash_model.specs.declared.settings.Settings.{Settings}
use Rattle.crash_model.specs.declared.steps.Step.{Step}
use Rattle.report.specs.Answers.{IsAnswerTo}
use Rattle.question_model.specs.LinesRefusal.{IsLinesRefusal, before_the_trace, bad_trace, too_many}
use Rattle.report.specs.OnChoices.{IsLinesReport}
use Rattle.question_model.specs.declared.question.Question.TheVariants.{EnoughLines}
use Rattle.question_model.specs.declared.question.TheConstants.{MAX_SYNCS}
use Rattle.uniqueness_laws.proofs.FewWaits.{whole_if_traced}
use Rattle.question_laws.proofs.OneLines.{lines_one}
use Rattle.question_laws.proofs.OneStart.{base_one, untraced_one, reported_one}

-- why a script is refused, by what the trace of its steps up to the limit comes to
abbrev IsRefusalOf : Result Tracing TraceFault → RunFault → Type 0
IsRefusalOf (Err why) fault = fault ≡ run_of_trace why
IsRefusalOf (Ok last) fault =
    (wait : Wait) × (slice_get last.waits MAX_SYNCS ≡ Some wait) × (fault ≡ TooManySyncs wait.line)

same_wait : (waits : List Wait) (place : ℕ) (a b : Wait) → slice_get waits place ≡ Some a
    → slice_get waits place ≡ Some b → a ≡ b
same_wait waits place a b is also = cc

refusal_of_one : (r : Result Tracing TraceFault) (fault other : RunFault) → IsRefusalOf r fault → IsRefusalOf r other
    → fault ≡ other
refusal_of_one (Err why) fault other is also = is ∙ sym also
refusal_of_one (Ok last) fault other is also =
    let same : is.0 ≡ also.0 = same_wait last.waits MAX_SYNCS is.0 also.0 is.1 also.1 in
    is.2 ∙ (ap (λ (wait : Wait). TooManySyncs wait.line) same ∙ sym also.2)

module _ (bytes : List ℕ) (settings : Settings) where
  abbrev traced : Disk → List Step → Result Tracing TraceFault
  traced base steps = trace_from settings.module (trace_start settings.whole_blocks base) steps

  refused_by_trace : (fault : RunFault) (base : Disk) (steps : List Step) → IsLinesRefusal bytes settings fault
      → HasBase bytes settings base steps
      → IsRefusalOf (trace_from settings.module (trace_start settings.whole_blocks base) (up_to_wait MAX_SYNCS steps))
      fault
  refused_by_trace _ base steps (before_the_trace fault is none) start = absurd (none base steps start)
  refused_by_trace _ base steps (bad_trace other more why begun run) start =
      let same = base_one bytes settings other base more steps begun start in
      subst (λ r. IsRefusalOf r (run_of_trace why))
      (sym run ∙ (λ i. traced (same.0 i) (up_to_wait MAX_SYNCS (same.1 i)))) refl
  refused_by_trace _ base steps (too_many other more last wait begun run at) start =
      let same = base_one bytes settings other base more steps begun start in
      subst (λ r. IsRefusalOf r (TooManySyncs wait.line))
      (sym run ∙ (λ i. traced (same.0 i) (up_to_wait MAX_SYNCS (same.1 i)))) (wait, at, refl)

  -- where there is a base, the trace decides
  refusal_by_trace : (base : Disk) (steps : List Step) → HasBase bytes settings base steps → (fault other : RunFault)
      → IsLinesRefusal bytes settings fault → IsLinesRefusal bytes settings other → fault ≡ other
  refusal_by_trace base steps start fault other is also =
      refusal_of_one (traced base (up_to_wait MAX_SYNCS steps)) fault other
      (refused_by_trace fault base steps is start) (refused_by_trace other base steps also start)

  refusal_one : (fault other : RunFault) → IsLinesRefusal bytes settings fault → IsLinesRefusal bytes settings other
      → fault ≡ other
  refusal_one _ other (bad_trace base steps why start run) also =
      refusal_by_trace base steps start (run_of_trace why) other (bad_trace base steps why start run) also
  refusal_one _ other (too_many base steps last wait start run at) also =
      refusal_by_trace base steps start (TooManySyncs wait.line) other (too_many base steps last wait start run at) also
  refusal_one _ other (before_the_trace fault is none) also = by other also
    where
      by : (other : RunFault) → IsLinesRefusal bytes settings other → fault ≡ other
      by _ (before_the_trace more untraced none_too) = untraced_one bytes settings fault more is untraced
      by _ (bad_trace base steps why start run) = absurd (none base steps start)
      by _ (too_many base steps last wait start run at) = absurd (none base steps start)

  not_refused : (fault : RunFault) (text : List ℕ) (number : ℕ) → IsLinesRefusal bytes settings fault
      → IsReported (IsLinesReport settings) bytes settings text number → ⊥
  not_refused fault text number is also =
      let steps = also.graph.steps in
      let few : length also.last.waits ≤ MAX_SYNCS = also.report.0 in
      let whole : up_to_wait MAX_SYNCS steps ≡ steps =
      whole_if_traced settings.module settings.whole_blocks also.base MAX_SYNCS steps also.last few also.graph.run in
      let it : IsRefusalOf (Ok also.last) fault = subst (λ r. IsRefusalOf r fault)
      (ap (traced also.base) whole ∙ also.graph.run) (refused_by_trace fault also.base steps is also.graph.start) in
      let many : MAX_SYNCS < length also.last.waits = slice_get_within also.last.waits MAX_SYNCS it.0 it.1 in
      not_both few many
    where
      not_both : {n most : ℕ} → n ≤ most → most < n → ⊥
      not_both few many = omega (arith, few, many)

  pub one_lines_answer : (answer other : Answer) → IsAnswerTo EnoughLines bytes settings answer
      → IsAnswerTo EnoughLines bytes settings other → answer ≡ other
  one_lines_answer (Refused fault) (Refused more) is also = ap Refused (refusal_one fault more is also)
  one_lines_answer (Refused fault) (Reported text number) is also = absurd (not_refused fault text number is also)
  one_lines_answer (Reported text number) (Refused fault) is also = absurd (not_refused fault text number also is)
  one_lines_answer (Reported text number) (Reported other more) is also =
      let same = reported_one bytes settings (IsLinesReport settings) (lines_one settings) text other number more is
      also in
      λ i. Reported (same.0 i) (same.1 i)
