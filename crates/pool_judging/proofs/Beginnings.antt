-- A sequence is traced as a beginning and one step more.
use Rattle.std.proofs.Common.{◌≡◌, ℕ, ◌+◌, ◌<◌, ◌≤◌, List, [], ◌∷◌, ◌++◌, length, take, drop, get_or, Bool, arith}
use Rattle.std.proofs.Common.{sym, ap, subst, ◌∙◌, length-append, take_all, append-nil, append_assoc}
use Rattle.std.specs.Prelude.{Ok}
use Rattle.std.specs.List.{All}
use Rattle.std.proofs.lemmas.List.{take_more, take-append-drop}
use Rattle.std.proofs.lemmas.List.Elements.{All-nil, All-cons, All-append}
use Rattle.crash_model.specs.Checker.{Demands, AreDemands}
use Rattle.crash_model.specs.Disk.{Disk}
use Rattle.crash_model.specs.Promises.{promises_of}
use Rattle.crash_model.specs.Trace.{IsGraphOf, trace_from, step}
use Rattle.crash_model.specs.Tracing.{Tracing, trace_start}
use Rattle.crash_model.specs.declared.modules.Module.{Module}
use Rattle.crash_model.specs.declared.patches.Patch.{Patch}
use Rattle.crash_model.specs.declared.rules.Rule.{Rule}
use Rattle.crash_model.specs.declared.steps.Act.{Act}
use Rattle.crash_model.specs.declared.steps.Step.{Step}
use Rattle.order_modules.specs.Tracer.{Trace, GivesNames, GivesNameIfAny, Moves}
use Rattle.order_modules.proofs.Steps.{trace_one_more}
use Rattle.promise_steps.specs.Underway.{all_advanced, all_finished, all_ended}
use Rattle.promise_steps.proofs.Finished.{all_on, all_last}
use Rattle.promise_steps.proofs.Whole.{begins}
use Rattle.kept_promises.specs.Watched.{AreAt, unders_of}
use Rattle.kept_promises.specs.declared.promising.Promising.{Promising}
use Rattle.question_model.specs.Verdict.{IsAccepted}
use Rattle.question_model.specs.Workloads.{Search, HasPatches, workload_at, trace_at}
use Rattle.workload_search.proofs.Accepted.{accepted_front}
use Rattle.pool_judging.specs.Beginnings.{IsPrefixAt, IsPrefixBy, ArePromised, IsTraceBy, IsTraceAt, AreDemandsAt}
use Rattle.pool_judging.specs.Keeps.{keep_step}
use Rattle.pool_judging.specs.Pools.{IsKeep}
use Rattle.pool_judging.specs.declared.prefix.TracedPrefix.{TracedPrefix}
use Rattle.pool_judging.proofs.Pools.{workload_none, workload_more}

-- ---- before the first step

pub trace_none : (s : Search) (t : Trace) → t.tracing ≡ trace_start s.whole s.base → t.log.base ≡ s.base
    → t.log.kind ≡ s.ordering → t.log.rules ≡ s.rules → IsTraceBy s [] t
trace_none s t began base kind rules = record {
  base = base;
  kind = kind;
  rules = rules;
  traced = ap (λ (r : Tracing). Ok r) (sym began);
  names = All-nil GivesNames;
}

pub promised_none : {A : Type 0} (s : Search) (here : Tracing) (p : Promising A) → here ≡ trace_start s.whole s.base
    → unders_of p ≡ [] → AreAt p here → p.is_durable ≡ s.asked.durable → ArePromised s [] here p
promised_none s here p began none at durable = record {
  found = λ rest. rw (began, none) (begins s.ordering s.asked.durable s.whole s.base rest);
  at = at;
  durable = durable;
}

-- ---- one step more

module _ (s : Search) (steps : List Step) (t : Trace) (x : Step) (is : IsTraceBy s steps t) where
  -- what one step more makes of the trace
  pub trace_one : trace_from s.ordering (trace_start s.whole s.base) (steps ++ x ∷ [])
      ≡ step t.log.kind t.tracing x.line x.act
  trace_one = trace_one_more s.ordering (trace_start s.whole s.base) t.tracing steps x is.traced
      ∙ ap (λ (k : Module). step k t.tracing x.line x.act) (sym is.kind)

  pub trace_longer : (next : Trace) → Moves t next (step t.log.kind t.tracing x.line x.act) → GivesNameIfAny x.act
      → IsTraceBy s (steps ++ x ∷ []) next
  trace_longer next moves named = record {
    base = moves.base ∙ is.base;
    kind = moves.kind ∙ is.kind;
    rules = moves.rules ∙ is.rules;
    traced = trace_one ∙ moves.answered;
    names = All-append GivesNames steps (x ∷ []) is.names
        (All-cons GivesNames x [] (λ op same. subst (λ (act : Act). GivesNameIfAny act) same named)
        (All-nil GivesNames));
  }

  -- what one step more makes of the promises
  pub promised_longer : {A : Type 0} (next : Trace) (p q : Promising A)
      → Moves t next (step t.log.kind t.tracing x.line x.act) → ArePromised s steps t.tracing p
      → unders_of q ≡ all_advanced p.is_durable (unders_of p) t.tracing x.line x.act next.tracing
      → AreAt q next.tracing → q.is_durable ≡ p.is_durable → ArePromised s (steps ++ x ∷ []) next.tracing q
  promised_longer next p q moves are advanced at durable =
      let goes : step s.ordering t.tracing x.line x.act ≡ Ok next.tracing =
      sym (ap (λ (k : Module). step k t.tracing x.line x.act) is.kind) ∙ moves.answered in
      record {
        found = λ rest.
            ap (all_finished s.ordering s.asked.durable next.tracing rest)
            (advanced
            ∙ ap (λ (b : Bool). all_advanced b (unders_of p) t.tracing x.line x.act next.tracing) are.durable)
            ∙ (sym (all_on s.ordering s.asked.durable t.tracing x rest (unders_of p) next.tracing goes)
            ∙ (are.found (x ∷ rest)
            ∙ ap (promises_of s.ordering s.asked.durable s.base) (sym (append_assoc steps (x ∷ []) rest))));
        at = at;
        durable = durable ∙ are.durable;
      }

-- a copy has the same promises
pub promised_copy : {A : Type 0} (s : Search) (steps : List Step) (here : Tracing) (p q : Promising A)
    → ArePromised s steps here p → unders_of q ≡ unders_of p → (AreAt p here → AreAt q here)
    → q.is_durable ≡ p.is_durable → ArePromised s steps here q
promised_copy s steps here p q are same at durable = record {
  found = λ rest. ap (all_finished s.ordering s.asked.durable here rest) same ∙ are.found rest;
  at = at are.at;
  durable = durable ∙ are.durable;
}

-- behind the last step
pub promised_all : {A : Type 0} (s : Search) (steps : List Step) (here : Tracing) (p : Promising A)
    → ArePromised s steps here p
    → all_ended here (unders_of p) ≡ promises_of s.ordering s.asked.durable s.base steps
promised_all s steps here p are =
    sym (all_last s.ordering here s.asked.durable (unders_of p))
    ∙ (are.found [] ∙ ap (promises_of s.ordering s.asked.durable s.base) (append-nil steps))

-- ---- the promises that each workload begins with

module _ {A : Type 0} (s : Search) (i : ℕ) (b : TracedPrefix A) (x : Step) (within : i < length s.keeps)
    (read : x ≡ get_or s.keeps i x) (all : All IsKeep s.keeps) where
  keeps_at : IsKeep x
  keeps_at = subst IsKeep (sym read) (all i x within)

  pub keep_accepted : (next : Tracing) × (step b.tracer.log.kind b.tracer.tracing x.line x.act ≡ Ok next)
  keep_accepted = (b.tracer.tracing, keep_step b.tracer.log.kind b.tracer.tracing x.line x.act keeps_at)

  pub keep_taken : (longer : TracedPrefix A) → b.tracer.tracing.op_number ≡ 1
      → Moves b.tracer longer.tracer (step b.tracer.log.kind b.tracer.tracing x.line x.act)
      → longer.tracer.tracing.op_number ≡ 1
  keep_taken longer one moves =
      let same : b.tracer.tracing ≡ longer.tracer.tracing =
      let both : Ok b.tracer.tracing ≡ Ok longer.tracer.tracing =
      sym (keep_step b.tracer.log.kind b.tracer.tracing x.line x.act keeps_at) ∙ moves.answered in cc in
      ap (λ (t : Tracing). t.op_number) (sym same) ∙ one

  pub keeps_more : (longer : TracedPrefix A) → IsPrefixBy s (take i s.keeps ++ x ∷ []) longer
      → IsPrefixBy s (take (i + 1) s.keeps) longer
  keeps_more longer are = subst (λ (steps : List Step). IsPrefixBy s steps longer)
      (ap (λ (y : Step). take i s.keeps ++ y ∷ []) read ∙ sym (take_more s.keeps i x within)) are

-- all of them
pub prefix_none : {A : Type 0} (s : Search) (i : ℕ) (b : TracedPrefix A) → length s.keeps ≤ i
    → b.tracer.tracing.op_number ≡ 1
    → IsPrefixBy s (take i s.keeps) b → IsPrefixAt s [] b
prefix_none s i b past one are = record {
  short = omega arith;
  among = All-nil (λ place. place < length s.pool);
  op_numbers = omega (arith, one);
  are = subst (λ (steps : List Step). IsPrefixBy s steps b) (take_all i s.keeps past ∙ workload_none s) are;
}

-- ---- some of the places

-- what is made of the steps at the first places
pub record IsPrefixTo {A : Type 0} (s : Search) (places : List ℕ) (i : ℕ) (b : TracedPrefix A) : Type 0 where
  pub op_numbers : b.tracer.tracing.op_number ≤ length (take i places) + 1
  pub are : IsPrefixBy s (workload_at s (take i places)) b

pub few_turns : {A : Type 0} (s : Search) (places : List ℕ) (i : ℕ) (b : TracedPrefix A) → length places < 8
    → IsPrefixTo s places i b → b.tracer.tracing.op_number ≤ 8
few_turns s places i b short is =
    omega (
      arith,
      short,
      is.op_numbers,
      length-append (take i places) (drop i places),
      ap (λ (ps : List ℕ). length ps) (take-append-drop i places),
    )

module _ {A : Type 0} (s : Search) (places : List ℕ) (i : ℕ) (b : TracedPrefix A) (x d : Step)
    (within : i < length places)
    (low : get_or places i 0 < length s.pool) (read : x ≡ get_or s.pool (get_or places i 0) d)
    (is : IsPrefixTo s places i b) where
  place : ℕ
  place = get_or places i 0

  taken : take (i + 1) places ≡ take i places ++ place ∷ []
  unfolding place
  taken = take_more places i 0 within

  steps_taken : workload_at s (take (i + 1) places) ≡ workload_at s (take i places) ++ x ∷ []
  unfolding place
  steps_taken = ap (workload_at s) taken ∙ workload_more s (take i places) place x d low read

  -- where the whole is accepted the next step is
  pub next_accepted : IsAccepted s places
      → (next : Tracing) × (step b.tracer.log.kind b.tracer.tracing x.line x.act ≡ Ok next)
  next_accepted accepted =
      let early = accepted_front s (take (i + 1) places) (drop (i + 1) places)
      (subst (IsAccepted s) (sym (take-append-drop (i + 1) places)) accepted) in (
        early.0,
        sym (trace_one s (workload_at s (take i places)) b.tracer x is.are.is)
            ∙ (ap (λ (steps : List Step). trace_from s.ordering (trace_start s.whole s.base) steps) (sym steps_taken)
            ∙ early.1),
      )

  pub prefix_more : (longer : TracedPrefix A) → IsPrefixBy s (workload_at s (take i places) ++ x ∷ []) longer
      → Moves b.tracer longer.tracer (step b.tracer.log.kind b.tracer.tracing x.line x.act)
      → IsPrefixTo s places (i + 1) longer
  prefix_more longer are moves = record {
    op_numbers = omega (
      arith,
      moves.op_numbers,
      is.op_numbers,
      ap (λ (ps : List ℕ). length ps) taken,
      length-append (take i places) (place ∷ []),
    );
    are = subst (λ (steps : List Step). IsPrefixBy s steps longer) (sym steps_taken) are;
  }

pub prefix_first : {A : Type 0} (s : Search) (places : List ℕ) (b : TracedPrefix A) → IsPrefixAt s [] b
    → IsPrefixTo s places 0 b
prefix_first s places b is = record { op_numbers = is.op_numbers; are = is.are }

pub prefix_all : {A : Type 0} (s : Search) (places : List ℕ) (i : ℕ) (b : TracedPrefix A) → length places < 8
    → All (λ place. place < length s.pool) places → length places ≤ i → IsPrefixTo s places i b → IsPrefixAt s places b
prefix_all s places i b short among past is =
    let all : take i places ≡ places = take_all i places past in
    record {
      short = short;
      among = among;
      op_numbers = subst (λ (ps : List ℕ). b.tracer.tracing.op_number ≤ length ps + 1) all is.op_numbers;
      are = subst (λ (ps : List ℕ). IsPrefixBy s (workload_at s ps) b) all is.are;
    }

-- ---- a beginning and one step more

module _ {A : Type 0} (s : Search) (front : List ℕ) (place : ℕ) (b : TracedPrefix A) (x d : Step)
    (low : place < length s.pool) (read : x ≡ get_or s.pool place d) (is : IsPrefixAt s front b) where
  abbrev longer_places : List ℕ
  longer_places = front ++ place ∷ []

  steps : workload_at s longer_places ≡ workload_at s front ++ x ∷ []
  steps = workload_more s front place x d low read

  pub trace_at_one : trace_at s longer_places ≡ step b.tracer.log.kind b.tracer.tracing x.line x.act
  trace_at_one = ap (λ (xs : List Step). trace_from s.ordering (trace_start s.whole s.base) xs) steps
      ∙ trace_one s (workload_at s front) b.tracer x is.are.is

  pub trace_at_longer : (next : Trace) → Moves b.tracer next (step b.tracer.log.kind b.tracer.tracing x.line x.act)
      → GivesNameIfAny x.act → IsTraceAt s longer_places next
  trace_at_longer next moves named = subst (λ (xs : List Step). IsTraceBy s xs next) (sym steps)
      (trace_longer s (workload_at s front) b.tracer x is.are.is next moves named)

  pub demands_at_longer : (demands : Demands)
      → ((xs : List Step) → IsPrefixBy s xs b → AreDemands s.asked s.base (xs ++ x ∷ []) demands)
      → AreDemandsAt s longer_places demands
  demands_at_longer demands are =
      subst (λ (xs : List Step). AreDemands s.asked s.base xs demands) (sym steps) (are (workload_at s front) is.are)

-- ---- the patches of a trace

module _ (s : Search) (places : List ℕ) (t : Trace) where
  pub graph_at : (patches : List Patch) → IsTraceAt s places t
      → IsGraphOf t.log.rules t.log.base t.tracing patches → IsGraphOf s.rules s.base t.tracing patches
  graph_at patches is graph = subst (λ (rules : List Rule). IsGraphOf rules s.base t.tracing patches) is.rules
      (subst (λ (base : Disk). IsGraphOf t.log.rules base t.tracing patches) is.base graph)

  pub fits_at : (patches : List Patch) → IsTraceAt s places t
      → All (λ patch. patch.block < t.log.base.blocks) patches → All (λ patch. patch.block < s.base.blocks) patches
  fits_at patches is fits = subst (λ (base : Disk). All (λ patch. patch.block < base.blocks) patches) is.base fits

  pub patches_of : (demands : Demands) (patches : List Patch) → IsTraceAt s places t
      → IsGraphOf t.log.rules t.log.base t.tracing patches
      → AreDemandsAt s places demands → HasPatches s places demands patches
  patches_of demands patches is graph wanted = record {
    last = t.tracing;
    traced = is.traced;
    graph = graph_at patches is graph;
    demanded = wanted;
  }
