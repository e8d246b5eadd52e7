-- There is at most one answer.
use Rattle.std.proofs.Common.{◌≡◌, ℕ, List, length, sym, subst, ap, ◌∙◌, inl, inr}
use Rattle.std.specs.Prelude.{Result, Ok, Err}
use Rattle.state_space.proofs.Counting.{one_number, not_more}
use Rattle.patch_sets.specs.Closed.{IsClosed}
use Rattle.patch_sets.proofs.Canonical.{one_list}
use Rattle.report.specs.Answers.{Answer, Refused, Reported}
use Rattle.report.specs.OnGraphs.{IsReport, detail_of, head_on, sets_bytes}
use Rattle.question_model.specs.ScriptGraph.{ordering_rules, asked_by}
use Rattle.crash_model.specs.Disk.{Disk}
use Rattle.crash_model.specs.Generations.{new_disk}
use Rattle.crash_model.specs.Patches.{deps_of}
use Rattle.crash_model.specs.Refusals.{run_of_script}
use Rattle.crash_model.specs.Checker.{Demands, IsFailingUnder}
use Rattle.crash_model.specs.Trace.{trace_from, base_from}
use Rattle.crash_model.specs.Tracing.{Tracing, trace_start}
use Rattle.report.specs.Made.{AreSections}
use Rattle.crash_model.specs.declared.patches.Patch.{Patch}
use Rattle.crash_model.specs.declared.refusals.TraceFault.{TraceFault}
use Rattle.crash_model.specs.declared.settings.Settings.{Settings}
use Rattle.crash_model.specs.declared.steps.Step.{Step}
use Rattle.uniqueness_laws.proofs.Demands.{one_demands}
use Rattle.question_laws.proofs.OneSections.{sections_one}
use Rattle.uniqueness_laws.proofs.OneGraph.{graph_one}
use Rattle.question_laws.proofs.Stages.{ComesOfGraph, ComesOfTrace, ComesOfBase, ComesOfSteps, ComesOfScript}
use Rattle.question_laws.proofs.Stages.{IsAnswer, stages}
use Rattle.uniqueness_laws.proofs.Scripts.{script_one, refusal_one, read_or_refused}

module _ (settings : Settings) (limit : ℕ) (base : Disk) (last : Tracing) where
  report_one : (demands : Demands) (patches : List Patch) (text other : List ℕ) (failing more : ℕ)
      → IsReport settings limit demands base last patches text failing
      → IsReport settings limit demands base last patches other more → Reported text failing ≡ Reported other more
  report_one demands patches text other failing more is also =
      let total : is.total ≡ also.total = one_number (IsClosed (deps_of patches)) is.total also.total is.counted
      also.counted in
      let same : is.sets ≡ also.sets = one_list (IsFailingUnder demands base patches) is.sets also.sets is.exactly
      also.exactly in
      let numbers : failing ≡ more = is.number ∙ (ap (λ (some : List ℕ). length some) same ∙ sym also.number) in
      let sections : is.sections ≡ also.sections =
      sections_one (detail_of settings demands) base patches also.sets is.sections also.sections
      (subst (λ some. AreSections (detail_of settings demands) base patches some is.sections) same is.listed)
      also.listed in
      let texts : text ≡ other = is.whole ∙ ((λ i. sets_bytes settings (record {
        head = head_on settings demands base last patches (total i);
        sections = sections i;
      })) ∙ sym also.whole) in
      cc (texts, numbers)

  graph_answer_one : (steps : List Step) (patches : List Patch) (answer other : Answer)
      → ComesOfGraph settings limit base steps last patches answer
      → ComesOfGraph settings limit base steps last patches other → answer ≡ other
  graph_answer_one steps patches (Refused fault) (Refused more) is also = ap Refused (is.1 ∙ sym also.1)
  graph_answer_one steps patches (Refused fault) (Reported text failing) is also =
      absurd (not_more (IsClosed (deps_of patches)) also.2.total limit also.2.counted also.2.within is.0)
  graph_answer_one steps patches (Reported text failing) (Refused fault) is also =
      absurd (not_more (IsClosed (deps_of patches)) is.2.total limit is.2.counted is.2.within also.0)
  graph_answer_one steps patches (Reported text failing) (Reported other more) is also =
      let same : is.0 ≡ also.0 = one_demands (asked_by settings steps) base steps is.0 also.0 is.1 also.1 in
      report_one also.0 patches text other failing more (subst
      (λ demands. IsReport settings limit demands base last patches text failing) same is.2) also.2

module _ (settings : Settings) (limit : ℕ) (base : Disk) (steps : List Step) where
  traced_one : (r : Result Tracing TraceFault) (answer other : Answer)
      → ComesOfTrace settings limit base steps r answer
      → ComesOfTrace settings limit base steps r other → answer ≡ other
  traced_one (Err fault) answer other is also = is ∙ sym also
  traced_one (Ok s) answer other is also =
      let same : is.0 ≡ also.0 = graph_one (ordering_rules settings) base s is.0 also.0 is.1 also.1 in
      graph_answer_one settings limit base s steps also.0 answer other
      (subst (λ ps. ComesOfGraph settings limit base steps s ps answer) same is.2) also.2

module _ (settings : Settings) (limit : ℕ) where
  based_one : (r : Result Disk TraceFault) (steps : List Step) (answer other : Answer)
      → ComesOfBase settings limit r steps answer → ComesOfBase settings limit r steps other → answer ≡ other
  based_one (Err fault) steps answer other is also = is ∙ sym also
  based_one (Ok base) steps answer other is also = traced_one settings limit base steps
      (trace_from settings.module (trace_start settings.whole_blocks base) steps) answer other is also

  steps_answer_one : (base steps : List Step) (answer other : Answer) → ComesOfSteps settings limit base steps answer
      → ComesOfSteps settings limit base steps other → answer ≡ other
  steps_answer_one base steps answer other (inl is) (inl also) = is.1 ∙ sym also.1
  steps_answer_one base steps answer other (inl is) (inr also) = absurd (is.0 also.0)
  steps_answer_one base steps answer other (inr is) (inl also) = absurd (also.0 is.0)
  steps_answer_one base steps answer other (inr is) (inr also) =
      based_one (base_from (new_disk settings.blocks settings.journal settings.generations) base) steps answer other
      is.1 also.1

  script_answer_one : (bytes : List ℕ) (answer other : Answer) → ComesOfScript settings limit bytes answer
      → ComesOfScript settings limit bytes other → answer ≡ other
  script_answer_one bytes answer other (inl is) (inl also) =
      is.2 ∙ (ap (λ f. Refused (run_of_script f)) (refusal_one bytes is.0 also.0 is.1 also.1) ∙ sym also.2)
  script_answer_one bytes answer other (inl is) (inr also) =
      absurd (read_or_refused bytes also.0 also.1 is.0 also.2 is.1)
  script_answer_one bytes answer other (inr is) (inl also) = absurd (read_or_refused bytes is.0 is.1 also.0 is.2 also.1)
  script_answer_one bytes answer other (inr is) (inr also) =
      let same = script_one bytes is.0 is.1 also.0 also.1 is.2 also.2 in
      steps_answer_one also.0 also.1 answer other
      (subst (λ b. ComesOfSteps settings limit b also.1 answer) same.0
      (subst (λ t. ComesOfSteps settings limit is.0 t answer) same.1 is.3)) also.3

  pub answer_one : (bytes : List ℕ) (answer other : Answer) → IsAnswer settings limit bytes answer
      → IsAnswer settings limit bytes other → answer ≡ other
  answer_one bytes answer other is also = script_answer_one bytes answer other (stages settings limit bytes answer is)
      (stages settings limit bytes other also)
