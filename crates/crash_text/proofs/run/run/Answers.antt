use Rattle.std.proofs.Common.{rules, ◌≡◌, ◌≢◌, List, Result, Ok, Err, IfOk, IfErr, ap, subst, sym, ◌∙◌}
use Rattle.std.specs.Prelude.{All, string_bytes}
use Rattle.std.proofs.lemmas.Result.{IfErr-weaker, IfOk-weaker}
use Rattle.report.specs.Answers.{Refused, Reported, IsAnswerTo}
use Rattle.report.specs.OnGraphs.{IsReport}
use Rattle.question_model.specs.Refusals.{untraced}
use Rattle.crash_model.specs.Refusals.{run_of_script}
use Rattle.crash_model.specs.ChosenWaits.{up_to_wait}
use Rattle.crash_model.specs.Script.{IsAct}
use Rattle.crash_model.specs.declared.refusals.RunFault.TheVariants.{OutOfMemory}
use Rattle.crash_model.specs.declared.steps.Step.{Step}
use Rattle.report.specs.Decisions.{IsDecision}
use Rattle.report.specs.OnChoices.{IsEnoughReport, IsLinesReport}
use Rattle.question_model.specs.declared.question.TheConstants.{MAX_SYNCS}
use Rattle.crash_text.specs.BaseRefusal.{IsBaseRefusal}
use Rattle.crash_text.specs.Searching.{IsPoolRefusal, IsSearchOf}
use Rattle.crash_text.specs.SearchingRules.{IsRuleSearchOf}
use Rattle.crash_text.specs.Traced.{IsTraced, IsTraceRefusal, RisksNothing, FindsRisksAlone}
use Rattle.crash_text.proofs.Answering.{has_base, nothing_at_risk, finds_risks, refused_script, refused_base}
use Rattle.crash_text.proofs.Answering.{refused_steps}
use Rattle.crash_text.proofs.Answering.{reported_on, refused_sets, refused_pool, reported_pool}
use Rattle.crash_text.proofs.Answering.{reported_rules, refused_lines, refused_waits, whole_steps}
use Rattle.crash_text.proofs.Pools.{are_acts}
use Rattle.crash_text.proofs.run.run.Goals as goal

always : {T E P : Type 0} (r : Result T E) → P → IfOk r (λ _. P)
always (Ok x) p = p
always (Err e) p = tt

pub returns-in_err-read-clause-refused : goal.returns-in_err-read-clause-refused
returns-in_err-read-clause-refused g c =
    let asked = c.args.request.now in
    let fault = c.in_err-read.field-0.0 in
    let same : c.from_residual.result ≡ Err (run_of_script fault) = search rules in
    subst (λ r. IfErr r (λ f. f ≢ OutOfMemory
    → IsAnswerTo asked.question c.args.script.now asked.settings (Refused f))) (sym same)
    (λ memory. refused_script c.args.script.now asked.settings asked.question fault
    (c.in_err-read.ensures.refused (λ e. memory (ap run_of_script e))))

pub returns-in_err-built-clause-refused : goal.returns-in_err-built-clause-refused
returns-in_err-built-clause-refused g c =
    let asked = c.args.request.now in
    let read = c.in_ok-read.read in
    let fault = c.in_err-built.field-0.0 in
    let same : c.from_residual-in_err-built.result ≡ Err fault = search rules in
    subst (λ r. IfErr r (λ f. f ≢ OutOfMemory
    → IsAnswerTo asked.question c.args.script.now asked.settings (Refused f))) (sym same)
    (λ memory. refused_base c.args.script.now asked.settings asked.question read.base.items read.traced.items fault
    c.in_ok-read.ensures.ok
    (subst (λ s. IsBaseRefusal asked.settings s fault) c.deref.ensures.value
    (c.in_err-built.ensures.refused memory)))

-- ---- the sets that fail

pub returns-in_err-script-in-FailingSets-clause-refused : goal.returns-in_err-script-in-FailingSets-clause-refused
returns-in_err-script-in-FailingSets-clause-refused g c =
    let asked = c.args.request.now in
    let read = c.in_ok-read.read in
    let base = c.in_ok-built.built in
    let fault = c.in_err-script-in-FailingSets.field-0.0 in
    let start = has_base c.args.script.now asked.settings read.base.items _ read.traced.items base
    c.in_ok-read.ensures.ok c.in_ok-built.ensures.lawful c.deref.ensures.value c.in_ok-built.ensures.built in
    let same : c.from_residual-in_err-script-in-FailingSets.result ≡ Err fault = search rules in
    subst (λ r. IfErr r (λ f. f ≢ OutOfMemory
    → IsAnswerTo asked.question c.args.script.now asked.settings (Refused f))) (sym same)
    (λ memory. subst (λ q. IsAnswerTo q c.args.script.now asked.settings (Refused fault)) (sym c.in-FailingSets.is)
    (untraced fault (refused_steps c.args.script.now asked.settings base read.traced.items fault start
    (subst (λ s. IsTraceRefusal asked.settings base s fault) c.deref-in-FailingSets.ensures.value
    (c.in_err-script-in-FailingSets.ensures.refused memory)))))

pub returns-in-FailingSets-clause-reported : goal.returns-in-FailingSets-clause-reported
returns-in-FailingSets-clause-reported g c =
    let asked = c.args.request.now in
    let read = c.in_ok-read.read in
    let base = c.in_ok-built.built in
    let start = has_base c.args.script.now asked.settings read.base.items _ read.traced.items base
    c.in_ok-read.ensures.ok c.in_ok-built.ensures.lawful c.deref.ensures.value c.in_ok-built.ensures.built in
    let script = c.in_ok-script-in-FailingSets.script in
    let traced = subst (λ s. IsTraced asked.settings base s script) c.deref-in-FailingSets.ensures.value
    c.in_ok-script-in-FailingSets.ensures.traced in
    subst (λ q. IfOk c.explored.result (λ outcome. IsAnswerTo q c.args.script.now asked.settings
    (Reported (string_bytes outcome.text) outcome.number))) (sym c.in-FailingSets.is)
    (IfOk-weaker c.explored.result _ _
    (λ outcome is. reported_on c.args.script.now asked.settings (IsReport asked.settings c.in-FailingSets.limit) base
    read.traced.items script (string_bytes outcome.text) outcome.number start traced is)
    c.explored.ensures.reported)

pub returns-in-FailingSets-clause-refused : goal.returns-in-FailingSets-clause-refused
returns-in-FailingSets-clause-refused g c =
    let asked = c.args.request.now in
    let read = c.in_ok-read.read in
    let base = c.in_ok-built.built in
    let start = has_base c.args.script.now asked.settings read.base.items _ read.traced.items base
    c.in_ok-read.ensures.ok c.in_ok-built.ensures.lawful c.deref.ensures.value c.in_ok-built.ensures.built in
    let script = c.in_ok-script-in-FailingSets.script in
    let traced = subst (λ s. IsTraced asked.settings base s script) c.deref-in-FailingSets.ensures.value
    c.in_ok-script-in-FailingSets.ensures.traced in
    subst (λ q. IfErr c.explored.result (λ f. f ≢ OutOfMemory
    → IsAnswerTo q c.args.script.now asked.settings (Refused f))) (sym c.in-FailingSets.is)
    (IfErr-weaker c.explored.result _ _
    (λ fault says memory. let many = says memory in
    refused_sets c.args.script.now asked.settings c.in-FailingSets.limit base read.traced.items script fault start
    traced
    many.0 many.1)
    c.explored.ensures.too_many)

pub returns-in-FailingSets-clause-full : goal.returns-in-FailingSets-clause-full
returns-in-FailingSets-clause-full g c = λ full none nothing.
    let asked = c.args.request.now in
    let read = c.in_ok-read.read in
    let base = c.in_ok-built.built in
    let start = has_base c.args.script.now asked.settings read.base.items _ read.traced.items base
    c.in_ok-read.ensures.ok c.in_ok-built.ensures.lawful c.deref.ensures.value c.in_ok-built.ensures.built in
    c.explored.ensures.safe (c.in_ok-script-in-FailingSets.ensures.full full none
    (nothing_at_risk c.args.script.now asked.settings base read.traced.items _ start
    c.deref-in-FailingSets.ensures.value
    (subst (λ q. RisksNothing q c.args.script.now asked.settings) c.in-FailingSets.is nothing)))

pub returns-in-FailingSets-clause-at_risk : goal.returns-in-FailingSets-clause-at_risk
returns-in-FailingSets-clause-at_risk g c = λ full none.
    let asked = c.args.request.now in
    let read = c.in_ok-read.read in
    let base = c.in_ok-built.built in
    let start = has_base c.args.script.now asked.settings read.base.items _ read.traced.items base
    c.in_ok-read.ensures.ok c.in_ok-built.ensures.lawful c.deref.ensures.value c.in_ok-built.ensures.built in
    always c.explored.result
    (subst (λ q. FindsRisksAlone q c.args.script.now asked.settings) (sym c.in-FailingSets.is)
    (finds_risks c.args.script.now asked.settings base read.traced.items _ start c.deref-in-FailingSets.ensures.value
    (c.in_ok-script-in-FailingSets.ensures.at_risk full none)))

-- ---- a decision

pub returns-in_err-script-in-Decide-clause-refused : goal.returns-in_err-script-in-Decide-clause-refused
returns-in_err-script-in-Decide-clause-refused g c =
    let asked = c.args.request.now in
    let read = c.in_ok-read.read in
    let base = c.in_ok-built.built in
    let fault = c.in_err-script-in-Decide.field-0.0 in
    let start = has_base c.args.script.now asked.settings read.base.items _ read.traced.items base
    c.in_ok-read.ensures.ok c.in_ok-built.ensures.lawful c.deref.ensures.value c.in_ok-built.ensures.built in
    let same : c.from_residual-in_err-script-in-Decide.result ≡ Err fault = search rules in
    subst (λ r. IfErr r (λ f. f ≢ OutOfMemory
    → IsAnswerTo asked.question c.args.script.now asked.settings (Refused f))) (sym same)
    (λ memory. subst (λ q. IsAnswerTo q c.args.script.now asked.settings (Refused fault)) (sym c.in-Decide.is)
    (refused_steps c.args.script.now asked.settings base read.traced.items fault start
    (subst (λ s. IsTraceRefusal asked.settings base s fault) c.deref-in-Decide.ensures.value
    (c.in_err-script-in-Decide.ensures.refused memory))))

pub returns-in-Decide-clause-reported : goal.returns-in-Decide-clause-reported
returns-in-Decide-clause-reported g c =
    let asked = c.args.request.now in
    let read = c.in_ok-read.read in
    let base = c.in_ok-built.built in
    let start = has_base c.args.script.now asked.settings read.base.items _ read.traced.items base
    c.in_ok-read.ensures.ok c.in_ok-built.ensures.lawful c.deref.ensures.value c.in_ok-built.ensures.built in
    let script = c.in_ok-script-in-Decide.script in
    let outcome = c.in_ok-decided-in-Decide.field-0 in
    let traced = subst (λ s. IsTraced asked.settings base s script) c.deref-in-Decide.ensures.value
    c.in_ok-script-in-Decide.ensures.traced in
    subst (λ q. IsAnswerTo q c.args.script.now asked.settings (Reported (string_bytes outcome.text) outcome.number))
    (sym c.in-Decide.is)
    (reported_on c.args.script.now asked.settings (IsDecision asked.settings) base read.traced.items script
    (string_bytes outcome.text) outcome.number start traced c.in_ok-decided-in-Decide.ensures.reported)

pub returns-in-Decide-clause-full : goal.returns-in-Decide-clause-full
returns-in-Decide-clause-full g c = λ full none nothing.
    let asked = c.args.request.now in
    let read = c.in_ok-read.read in
    let base = c.in_ok-built.built in
    let start = has_base c.args.script.now asked.settings read.base.items _ read.traced.items base
    c.in_ok-read.ensures.ok c.in_ok-built.ensures.lawful c.deref.ensures.value c.in_ok-built.ensures.built in
    c.in_ok-decided-in-Decide.ensures.safe (c.in_ok-script-in-Decide.ensures.full full none
    (nothing_at_risk c.args.script.now asked.settings base read.traced.items _ start c.deref-in-Decide.ensures.value
    (subst (λ q. RisksNothing q c.args.script.now asked.settings) c.in-Decide.is nothing)))

pub returns-in-Decide-clause-at_risk : goal.returns-in-Decide-clause-at_risk
returns-in-Decide-clause-at_risk g c = λ full none.
    let asked = c.args.request.now in
    let read = c.in_ok-read.read in
    let base = c.in_ok-built.built in
    let start = has_base c.args.script.now asked.settings read.base.items _ read.traced.items base
    c.in_ok-read.ensures.ok c.in_ok-built.ensures.lawful c.deref.ensures.value c.in_ok-built.ensures.built in
    subst (λ q. FindsRisksAlone q c.args.script.now asked.settings) (sym c.in-Decide.is)
    (finds_risks c.args.script.now asked.settings base read.traced.items _ start c.deref-in-Decide.ensures.value
    (c.in_ok-script-in-Decide.ensures.at_risk full none))

-- ---- the rules that are enough

pub returns-in_err-script-in-Enough-clause-refused : goal.returns-in_err-script-in-Enough-clause-refused
returns-in_err-script-in-Enough-clause-refused g c =
    let asked = c.args.request.now in
    let read = c.in_ok-read.read in
    let base = c.in_ok-built.built in
    let fault = c.in_err-script-in-Enough.field-0.0 in
    let start = has_base c.args.script.now asked.settings read.base.items _ read.traced.items base
    c.in_ok-read.ensures.ok c.in_ok-built.ensures.lawful c.deref.ensures.value c.in_ok-built.ensures.built in
    let same : c.from_residual-in_err-script-in-Enough.result ≡ Err fault = search rules in
    subst (λ r. IfErr r (λ f. f ≢ OutOfMemory
    → IsAnswerTo asked.question c.args.script.now asked.settings (Refused f))) (sym same)
    (λ memory. subst (λ q. IsAnswerTo q c.args.script.now asked.settings (Refused fault)) (sym c.in-Enough.is)
    (refused_steps c.args.script.now asked.settings base read.traced.items fault start
    (subst (λ s. IsTraceRefusal asked.settings base s fault) c.deref-in-Enough.ensures.value
    (c.in_err-script-in-Enough.ensures.refused memory))))

pub returns-in-Enough-clause-reported : goal.returns-in-Enough-clause-reported
returns-in-Enough-clause-reported g c =
    let asked = c.args.request.now in
    let read = c.in_ok-read.read in
    let base = c.in_ok-built.built in
    let start = has_base c.args.script.now asked.settings read.base.items _ read.traced.items base
    c.in_ok-read.ensures.ok c.in_ok-built.ensures.lawful c.deref.ensures.value c.in_ok-built.ensures.built in
    let script = c.in_ok-script-in-Enough.script in
    let outcome = c.in_ok-enough-in-Enough.field-0 in
    let traced = subst (λ s. IsTraced asked.settings base s script) c.deref-in-Enough.ensures.value
    c.in_ok-script-in-Enough.ensures.traced in
    subst (λ q. IsAnswerTo q c.args.script.now asked.settings (Reported (string_bytes outcome.text) outcome.number))
    (sym c.in-Enough.is)
    (reported_on c.args.script.now asked.settings (IsEnoughReport asked.settings) base read.traced.items script
    (string_bytes outcome.text) outcome.number start traced c.in_ok-enough-in-Enough.ensures.reported)

pub returns-in-Enough-clause-full : goal.returns-in-Enough-clause-full
returns-in-Enough-clause-full g c = λ full none nothing.
    let asked = c.args.request.now in
    let read = c.in_ok-read.read in
    let base = c.in_ok-built.built in
    let start = has_base c.args.script.now asked.settings read.base.items _ read.traced.items base
    c.in_ok-read.ensures.ok c.in_ok-built.ensures.lawful c.deref.ensures.value c.in_ok-built.ensures.built in
    c.in_ok-enough-in-Enough.ensures.safe (c.in_ok-script-in-Enough.ensures.full full none
    (nothing_at_risk c.args.script.now asked.settings base read.traced.items _ start c.deref-in-Enough.ensures.value
    (subst (λ q. RisksNothing q c.args.script.now asked.settings) c.in-Enough.is nothing)))

pub returns-in-Enough-clause-at_risk : goal.returns-in-Enough-clause-at_risk
returns-in-Enough-clause-at_risk g c = λ full none.
    let asked = c.args.request.now in
    let read = c.in_ok-read.read in
    let base = c.in_ok-built.built in
    let start = has_base c.args.script.now asked.settings read.base.items _ read.traced.items base
    c.in_ok-read.ensures.ok c.in_ok-built.ensures.lawful c.deref.ensures.value c.in_ok-built.ensures.built in
    subst (λ q. FindsRisksAlone q c.args.script.now asked.settings) (sym c.in-Enough.is)
    (finds_risks c.args.script.now asked.settings base read.traced.items _ start c.deref-in-Enough.ensures.value
    (c.in_ok-script-in-Enough.ensures.at_risk full none))

-- ---- the lines that are enough

pub returns-in_err-script-in-EnoughLines-clause-refused : goal.returns-in_err-script-in-EnoughLines-clause-refused
returns-in_err-script-in-EnoughLines-clause-refused g c =
    let asked = c.args.request.now in
    let read = c.in_ok-read.read in
    let base = c.in_ok-built.built in
    let fault = c.in_err-script-in-EnoughLines.field-0.0 in
    let start = has_base c.args.script.now asked.settings read.base.items _ read.traced.items base
    c.in_ok-read.ensures.ok c.in_ok-built.ensures.lawful c.deref.ensures.value c.in_ok-built.ensures.built in
    let cut = c.up_to_limit-steps in
    let first = cut.ensures ∙ ap (up_to_wait MAX_SYNCS) c.deref-in-EnoughLines.ensures.value in
    let same : c.from_residual-in_err-script-in-EnoughLines.result ≡ Err fault = search rules in
    subst (λ r. IfErr r (λ f. f ≢ OutOfMemory
    → IsAnswerTo asked.question c.args.script.now asked.settings (Refused f))) (sym same)
    (λ memory. subst (λ q. IsAnswerTo q c.args.script.now asked.settings (Refused fault)) (sym c.in-EnoughLines.is)
    (refused_lines c.args.script.now asked.settings base read.traced.items cut.result.now fault start first
    (c.in_err-script-in-EnoughLines.ensures.refused memory)))

pub returns-in_err-check_waits-in-EnoughLines-clause-refused :
    goal.returns-in_err-check_waits-in-EnoughLines-clause-refused
returns-in_err-check_waits-in-EnoughLines-clause-refused g c =
    let asked = c.args.request.now in
    let read = c.in_ok-read.read in
    let base = c.in_ok-built.built in
    let fault = c.in_err-check_waits-in-EnoughLines.field-0.0 in
    let start = has_base c.args.script.now asked.settings read.base.items _ read.traced.items base
    c.in_ok-read.ensures.ok c.in_ok-built.ensures.lawful c.deref.ensures.value c.in_ok-built.ensures.built in
    let cut = c.up_to_limit-steps in
    let first = cut.ensures ∙ ap (up_to_wait MAX_SYNCS) c.deref-in-EnoughLines.ensures.value in
    let same : c.from_residual-in_err-check_waits-in-EnoughLines.result ≡ Err fault = search rules in
    subst (λ r. IfErr r (λ f. f ≢ OutOfMemory
    → IsAnswerTo asked.question c.args.script.now asked.settings (Refused f))) (sym same)
    (λ memory. subst (λ q. IsAnswerTo q c.args.script.now asked.settings (Refused fault)) (sym c.in-EnoughLines.is)
    (refused_waits c.args.script.now asked.settings base read.traced.items cut.result.now
    c.in_ok-script-in-EnoughLines.script fault start first c.in_ok-script-in-EnoughLines.ensures.traced
    c.in_err-check_waits-in-EnoughLines.ensures.refused))

pub returns-in-EnoughLines-clause-reported : goal.returns-in-EnoughLines-clause-reported
returns-in-EnoughLines-clause-reported g c =
    let asked = c.args.request.now in
    let read = c.in_ok-read.read in
    let base = c.in_ok-built.built in
    let start = has_base c.args.script.now asked.settings read.base.items _ read.traced.items base
    c.in_ok-read.ensures.ok c.in_ok-built.ensures.lawful c.deref.ensures.value c.in_ok-built.ensures.built in
    let script = c.in_ok-script-in-EnoughLines.script in
    let outcome = c.in_ok-enough_lines-in-EnoughLines.field-0 in
    let cut = c.up_to_limit-steps in
    let first = cut.ensures ∙ ap (up_to_wait MAX_SYNCS) c.deref-in-EnoughLines.ensures.value in
    let traced = c.in_ok-script-in-EnoughLines.ensures.traced in
    let whole = whole_steps c.args.script.now asked.settings base read.traced.items cut.result.now script first traced
    c.in_ok-check_waits-in-EnoughLines.ensures.few in
    subst (λ q. IsAnswerTo q c.args.script.now asked.settings (Reported (string_bytes outcome.text) outcome.number))
    (sym c.in-EnoughLines.is)
    (reported_on c.args.script.now asked.settings (IsLinesReport asked.settings) base read.traced.items script
    (string_bytes outcome.text) outcome.number start (subst (λ s. IsTraced asked.settings base s script) whole traced)
    c.in_ok-enough_lines-in-EnoughLines.ensures.reported)

pub returns-in-EnoughLines-clause-full : goal.returns-in-EnoughLines-clause-full
returns-in-EnoughLines-clause-full g c = λ full none nothing.
    let asked = c.args.request.now in
    let read = c.in_ok-read.read in
    let base = c.in_ok-built.built in
    let start = has_base c.args.script.now asked.settings read.base.items _ read.traced.items base
    c.in_ok-read.ensures.ok c.in_ok-built.ensures.lawful c.deref.ensures.value c.in_ok-built.ensures.built in
    let script = c.in_ok-script-in-EnoughLines.script in
    let cut = c.up_to_limit-steps in
    let first = cut.ensures ∙ ap (up_to_wait MAX_SYNCS) c.deref-in-EnoughLines.ensures.value in
    let whole = whole_steps c.args.script.now asked.settings base read.traced.items cut.result.now script first
    c.in_ok-script-in-EnoughLines.ensures.traced c.in_ok-check_waits-in-EnoughLines.ensures.few in
    c.in_ok-enough_lines-in-EnoughLines.ensures.safe (c.in_ok-script-in-EnoughLines.ensures.full full none
    (nothing_at_risk c.args.script.now asked.settings base read.traced.items _ start whole
    (subst (λ q. RisksNothing q c.args.script.now asked.settings) c.in-EnoughLines.is nothing)))

pub returns-in-EnoughLines-clause-at_risk : goal.returns-in-EnoughLines-clause-at_risk
returns-in-EnoughLines-clause-at_risk g c = λ full none.
    let asked = c.args.request.now in
    let read = c.in_ok-read.read in
    let base = c.in_ok-built.built in
    let start = has_base c.args.script.now asked.settings read.base.items _ read.traced.items base
    c.in_ok-read.ensures.ok c.in_ok-built.ensures.lawful c.deref.ensures.value c.in_ok-built.ensures.built in
    let script = c.in_ok-script-in-EnoughLines.script in
    let cut = c.up_to_limit-steps in
    let first = cut.ensures ∙ ap (up_to_wait MAX_SYNCS) c.deref-in-EnoughLines.ensures.value in
    let whole = whole_steps c.args.script.now asked.settings base read.traced.items cut.result.now script first
    c.in_ok-script-in-EnoughLines.ensures.traced c.in_ok-check_waits-in-EnoughLines.ensures.few in
    subst (λ q. FindsRisksAlone q c.args.script.now asked.settings) (sym c.in-EnoughLines.is)
    (finds_risks c.args.script.now asked.settings base read.traced.items _ start whole
    (c.in_ok-script-in-EnoughLines.ensures.at_risk full none))

-- ---- a search, and one for rules

pub searched-requires-clause-acts : goal.searched-requires-clause-acts
searched-requires-clause-acts g c κs within =
    let read = c.in_ok-read.read in
    subst (λ (steps : List Step). All (λ step. IsAct step.act) steps) (sym c.deref-in-Search.ensures.value)
    (are_acts c.args.script.now read.base.items read.traced.items c.in_ok-read.ensures.ok)

pub returns-in-Search-clause-reported : goal.returns-in-Search-clause-reported
returns-in-Search-clause-reported g c =
    let asked = c.args.request.now in
    let read = c.in_ok-read.read in
    let base = c.in_ok-built.built in
    let start = has_base c.args.script.now asked.settings read.base.items _ read.traced.items base
    c.in_ok-read.ensures.ok c.in_ok-built.ensures.lawful c.deref.ensures.value c.in_ok-built.ensures.built in
    subst (λ q. IfOk c.searched.result (λ outcome. IsAnswerTo q c.args.script.now asked.settings
    (Reported (string_bytes outcome.text) outcome.number))) (sym c.in-Search.is)
    (IfOk-weaker c.searched.result _ _
    (λ outcome reported.
    reported_pool c.args.script.now asked.settings c.in-Search.longest base read.traced.items
    (string_bytes outcome.text)
    outcome.number start
    (subst (λ s. IsSearchOf asked.settings c.in-Search.longest base s (string_bytes outcome.text) outcome.number)
    c.deref-in-Search.ensures.value reported))
    c.searched.ensures.reported)

pub returns-in-Search-clause-refused : goal.returns-in-Search-clause-refused
returns-in-Search-clause-refused g c =
    let asked = c.args.request.now in
    let read = c.in_ok-read.read in
    let base = c.in_ok-built.built in
    let start = has_base c.args.script.now asked.settings read.base.items _ read.traced.items base
    c.in_ok-read.ensures.ok c.in_ok-built.ensures.lawful c.deref.ensures.value c.in_ok-built.ensures.built in
    subst (λ q. IfErr c.searched.result (λ f. f ≢ OutOfMemory
    → IsAnswerTo q c.args.script.now asked.settings (Refused f))) (sym c.in-Search.is)
    (IfErr-weaker c.searched.result _ _
    (λ fault refused memory.
    refused_pool c.args.script.now asked.settings base read.traced.items fault start
    (subst (λ s. IsPoolRefusal s fault) c.deref-in-Search.ensures.value (refused memory)))
    c.searched.ensures.refused)

pub returns-in-Search-clause-full : goal.returns-in-Search-clause-full
returns-in-Search-clause-full g c = λ full none nothing. c.searched.ensures.full full none

pub returns-in-Search-clause-at_risk : goal.returns-in-Search-clause-at_risk
returns-in-Search-clause-at_risk g c = λ full none. always c.searched.result
    (subst (λ q. FindsRisksAlone q c.args.script.now c.args.request.now.settings) (sym c.in-Search.is) tt)

pub searched_for_rules-requires-clause-acts : goal.searched_for_rules-requires-clause-acts
searched_for_rules-requires-clause-acts g c κs within =
    let read = c.in_ok-read.read in
    subst (λ (steps : List Step). All (λ step. IsAct step.act) steps) (sym c.deref-in-SearchRules.ensures.value)
    (are_acts c.args.script.now read.base.items read.traced.items c.in_ok-read.ensures.ok)

pub returns-clause-reported : goal.returns-clause-reported
returns-clause-reported g c =
    let asked = c.args.request.now in
    let read = c.in_ok-read.read in
    let base = c.in_ok-built.built in
    let start = has_base c.args.script.now asked.settings read.base.items _ read.traced.items base
    c.in_ok-read.ensures.ok c.in_ok-built.ensures.lawful c.deref.ensures.value c.in_ok-built.ensures.built in
    subst (λ q. IfOk c.searched_for_rules.result (λ outcome. IsAnswerTo q c.args.script.now asked.settings
    (Reported (string_bytes outcome.text) outcome.number))) (sym c.in-SearchRules.is)
    (IfOk-weaker c.searched_for_rules.result _ _
    (λ outcome reported.
    reported_rules c.args.script.now asked.settings c.in-SearchRules.longest base read.traced.items
    (string_bytes outcome.text) outcome.number start
    (subst (λ s. IsRuleSearchOf asked.settings c.in-SearchRules.longest base s
    (string_bytes outcome.text) outcome.number)
    c.deref-in-SearchRules.ensures.value reported))
    c.searched_for_rules.ensures.reported)

pub returns-clause-refused : goal.returns-clause-refused
returns-clause-refused g c =
    let asked = c.args.request.now in
    let read = c.in_ok-read.read in
    let base = c.in_ok-built.built in
    let start = has_base c.args.script.now asked.settings read.base.items _ read.traced.items base
    c.in_ok-read.ensures.ok c.in_ok-built.ensures.lawful c.deref.ensures.value c.in_ok-built.ensures.built in
    subst (λ q. IfErr c.searched_for_rules.result (λ f. f ≢ OutOfMemory
    → IsAnswerTo q c.args.script.now asked.settings (Refused f))) (sym c.in-SearchRules.is)
    (IfErr-weaker c.searched_for_rules.result _ _
    (λ fault refused memory.
    refused_pool c.args.script.now asked.settings base read.traced.items fault start
    (subst (λ s. IsPoolRefusal s fault) c.deref-in-SearchRules.ensures.value (refused memory)))
    c.searched_for_rules.ensures.refused)

pub returns-clause-full : goal.returns-clause-full
returns-clause-full g c = λ full none nothing. c.searched_for_rules.ensures.full full none

pub returns-clause-at_risk : goal.returns-clause-at_risk
returns-clause-at_risk g c = λ full none. always c.searched_for_rules.result
    (subst (λ q. FindsRisksAlone q c.args.script.now c.args.request.now.settings) (sym c.in-SearchRules.is) tt)
