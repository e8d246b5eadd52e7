-- A script has at most one base and one graph, and none where it is refused.
use Rattle.std.proofs.Common.{◌≡◌, ℕ, List, subst, ap}
use Rattle.std.specs.Prelude.{Result, Ok, Err}
use Rattle.report.specs.Answers.{Answer, Refused, Reported}
use Rattle.question_model.specs.Reported.{IsReported}
use Rattle.question_model.specs.Refusals.{untraced}
use Rattle.question_model.specs.ScriptGraph.{HasBase, HasGraph, ordering_rules, asked_by}
use Rattle.question_model.specs.Refusals.{IsUntraced, bad_script, bad_geometry, bad_base, bad_trace}
use Rattle.crash_model.specs.Disk.{Disk}
use Rattle.crash_model.specs.Generations.{new_disk}
use Rattle.crash_model.specs.Checker.{Demands, AreDemands}
use Rattle.crash_model.specs.Trace.{trace_from, base_from, IsGraphOf}
use Rattle.crash_model.specs.Tracing.{Tracing, trace_start}
use Rattle.crash_model.specs.declared.patches.Patch.{Patch}
use Rattle.crash_model.specs.declared.refusals.RunFault.{RunFault}
use Rattle.crash_model.specs.declared.refusals.RunFault.TheVariants.{OutOfMemory}
use Rattle.crash_model.specs.declared.refusals.TraceFault.{TraceFault}
use Rattle.crash_model.specs.declared.settings.Settings.{Settings}
use Rattle.crash_model.specs.declared.steps.Step.{Step}
use Rattle.uniqueness_laws.proofs.Demands.{one_demands}
use Rattle.uniqueness_laws.proofs.OneGraph.{graph_one}
use Rattle.uniqueness_laws.proofs.Scripts.{script_one, read_or_refused}
use Rattle.question_laws.proofs.OneAnswer.{answer_one}

ok_one : {A E : Type 0} (r : Result A E) (a b : A) → r ≡ Ok a → r ≡ Ok b → a ≡ b
ok_one r a b is also = cc

pub ok_or_err : {A E : Type 0} (r : Result A E) (a : A) (e : E) → r ≡ Ok a → r ≡ Err e → ⊥
ok_or_err r a e is also = cc

fault_in : (answer : Answer) → RunFault
fault_in (Refused fault) = fault
fault_in (Reported text number) = OutOfMemory

-- an answer is a refusal of a script that is not traced, or a report on its graph
abbrev pub IsAnswered : (Demands → Disk → Tracing → List Patch → List ℕ → ℕ → Type 0) → List ℕ → Settings → Answer
    → Type 0
IsAnswered IsOn bytes settings (Refused fault) = IsUntraced bytes settings fault
IsAnswered IsOn bytes settings (Reported text number) = IsReported IsOn bytes settings text number

module _ (bytes : List ℕ) (settings : Settings) where
  pub base_one : (base other : Disk) (steps more : List Step) → HasBase bytes settings base steps
      → HasBase bytes settings other more → (base ≡ other) × (steps ≡ more)
  base_one base other steps more is also =
      let same = script_one bytes is.before steps also.before more is.read also.read in (
        ok_one (base_from (new_disk settings.blocks settings.journal settings.generations) also.before) base other
            (subst (λ before. base_from (new_disk settings.blocks settings.journal settings.generations) before
            ≡ Ok base)
            same.0 is.built)
            also.built,
        same.1,
      )

  pub untraced_one : (fault other : RunFault) → IsUntraced bytes settings fault → IsUntraced bytes settings other
      → fault ≡ other
  unfolding fault_in
  untraced_one fault other is also =
      ap fault_in (answer_one settings 0 bytes (Refused fault) (Refused other) (untraced fault is)
      (untraced other also))

  -- a script that has a base and is not traced has steps of which one is refused
  trace_refused : (fault : RunFault) (base : Disk) (steps : List Step) → IsUntraced bytes settings fault
      → HasBase bytes settings base steps
      → (why : TraceFault) × (trace_from settings.module (trace_start settings.whole_blocks base) steps ≡ Err why)
  trace_refused _ base steps (bad_script fault refused) has =
      absurd (read_or_refused bytes has.before steps fault has.read refused)
  trace_refused _ base steps (bad_geometry before more read none) has = absurd (none has.geometry)
  trace_refused _ base steps (bad_base before more fault read geometry is) has =
      let same = script_one bytes before more has.before steps read has.read in
      absurd (ok_or_err (base_from (new_disk settings.blocks settings.journal settings.generations) has.before) base
      fault
      has.built
      (subst (λ some. base_from (new_disk settings.blocks settings.journal settings.generations) some ≡ Err fault)
      same.0
      is))
  trace_refused _ base steps (bad_trace other more fault start is) has =
      let same = base_one other base more steps start has in (
        fault,
        subst (λ d. trace_from settings.module (trace_start settings.whole_blocks d) steps ≡ Err fault) same.0
            (subst (λ some. trace_from settings.module (trace_start settings.whole_blocks other) some ≡ Err fault)
            same.1 is),
      )

  pub traced_or_not : (fault : RunFault) (base : Disk) (last : Tracing) (patches : List Patch)
      → IsUntraced bytes settings fault → HasGraph bytes settings base last patches → ⊥
  traced_or_not fault base last patches is has =
      let why = trace_refused fault base has.steps is has.start in
      ok_or_err (trace_from settings.module (trace_start settings.whole_blocks base) has.steps) last why.0 has.run
      why.1

  -- what two reports are on
  module _ (IsOn : Demands → Disk → Tracing → List Patch → List ℕ → ℕ → Type 0)
      (one : (demands : Demands) (base : Disk) (last : Tracing) (patches : List Patch) (text other : List ℕ)
      (number more : ℕ) → IsGraphOf (ordering_rules settings) base last patches
      → IsOn demands base last patches text number → IsOn demands base last patches other more
      → (text ≡ other) × (number ≡ more)) where
    pub reported_one : (text other : List ℕ) (number more : ℕ) → IsReported IsOn bytes settings text number
        → IsReported IsOn bytes settings other more → (text ≡ other) × (number ≡ more)
    reported_one text other number more is also =
        let start = base_one is.base also.base is.graph.steps also.graph.steps is.graph.start also.graph.start in
        by start.0 start.1
      where
        by : is.base ≡ also.base → is.graph.steps ≡ also.graph.steps → (text ≡ other) × (number ≡ more)
        by bases steps =
            let run : trace_from settings.module (trace_start settings.whole_blocks also.base) also.graph.steps
            ≡ Ok is.last =
            subst (λ d. trace_from settings.module (trace_start settings.whole_blocks d) also.graph.steps ≡ Ok is.last)
            bases
            (subst (λ some. trace_from settings.module (trace_start settings.whole_blocks is.base) some ≡ Ok is.last)
            steps
            is.graph.run) in
            let lasts : is.last ≡ also.last = ok_one
            (trace_from settings.module (trace_start settings.whole_blocks also.base) also.graph.steps) is.last
            also.last run
            also.graph.run in
            let graph : IsGraphOf (ordering_rules settings) also.base also.last is.patches =
            subst (λ d. IsGraphOf (ordering_rules settings) d also.last is.patches) bases
            (subst (λ last. IsGraphOf (ordering_rules settings) is.base last is.patches) lasts is.graph.graph) in
            let patches : is.patches ≡ also.patches =
            graph_one (ordering_rules settings) also.base also.last is.patches also.patches graph also.graph.graph in
            let demands : is.demands ≡ also.demands = one_demands (asked_by settings also.graph.steps) also.base
            also.graph.steps is.demands also.demands
            (subst (λ d. AreDemands (asked_by settings also.graph.steps) d also.graph.steps is.demands) bases
            (subst (λ some. AreDemands (asked_by settings some) is.base some is.demands) steps is.demanded))
            also.demanded in
            one also.demands also.base also.last also.patches text other number more also.graph.graph
            (subst (λ d. IsOn d also.base also.last also.patches text number) demands
            (subst (λ d. IsOn is.demands d also.last also.patches text number) bases
            (subst (λ last. IsOn is.demands is.base last also.patches text number) lasts
            (subst (λ ps. IsOn is.demands is.base is.last ps text number) patches is.report)))) also.report

    pub answered_one : (answer other : Answer) → IsAnswered IsOn bytes settings answer
        → IsAnswered IsOn bytes settings other → answer ≡ other
    answered_one (Refused fault) (Refused more) is also = ap Refused (untraced_one fault more is also)
    answered_one (Refused fault) (Reported text number) is also =
        absurd (traced_or_not fault also.base also.last also.patches is also.graph)
    answered_one (Reported text number) (Refused fault) is also =
        absurd (traced_or_not fault is.base is.last is.patches also is.graph)
    answered_one (Reported text number) (Reported other more) is also =
        let same = reported_one text other number more is also in
        λ i. Reported (same.0 i) (same.1 i)
