-- The steps of a script, one after another.
use Rattle.std.proofs.Common.{◌≡◌, ℕ, ◌+◌, ◌<◌, ◌≤◌, List, [], ◌∷◌, ◌++◌, length, take, drop, get_or}
use Rattle.std.proofs.Common.{Bool, append_assoc, refl, sym, ◌∙◌, ap, subst, arith}
use Rattle.std.specs.Prelude.{All, Result, Ok, Err}
use Rattle.std.proofs.lemmas.List.{take_more, take-append-drop, take_all}
use Rattle.std.proofs.lemmas.List.Elements.{All-nil, All-cons, All-append}
use Rattle.crash_model.specs.Disk.{Disk}
use Rattle.crash_model.specs.Plan.{then_ok}
use Rattle.crash_model.specs.Trace.{step, trace_from}
use Rattle.crash_model.specs.Tracing.{Tracing, trace_start}
use Rattle.crash_model.specs.declared.refusals.TraceFault.{TraceFault}
use Rattle.crash_model.specs.declared.rules.Rule.{Rule}
use Rattle.crash_model.specs.declared.modules.Module.{Module}
use Rattle.crash_model.specs.declared.steps.Act.{Act}
use Rattle.crash_model.specs.declared.steps.Step.{Step}
use Rattle.order_modules.specs.Tracer.{GivesNameIfAny, GivesNames, Trace, Moves}

then_then : (kind : Module) (ys : List Step) (r : Result Tracing TraceFault) (f g : Tracing → Result Tracing TraceFault)
    → ((next : Tracing) → f next ≡ then_ok (g next) (λ end. trace_from kind end ys))
    → then_ok r f ≡ then_ok (then_ok r g) (λ end. trace_from kind end ys)
then_then kind ys (Ok next) f g each = each next
then_then kind ys (Err e) f g each = refl

trace_from-append : (kind : Module) (s : Tracing) (xs ys : List Step)
    → trace_from kind s (xs ++ ys) ≡ then_ok (trace_from kind s xs) (λ next. trace_from kind next ys)
trace_from-append kind s [] ys = refl
trace_from-append kind s (x ∷ xs) ys = then_then kind ys (step kind s x.line x.act)
    (λ next. trace_from kind next (xs ++ ys)) (λ next. trace_from kind next xs)
    (λ next. trace_from-append kind next xs ys)

then_last : (kind : Module) (r : Result Tracing TraceFault) → then_ok r (λ next. trace_from kind next []) ≡ r
then_last kind (Ok next) = refl
then_last kind (Err e) = refl

-- the trace of some steps and one more is that step after them
pub trace_one_more : (kind : Module) (s t : Tracing) (xs : List Step) (x : Step) → trace_from kind s xs ≡ Ok t
    → trace_from kind s (xs ++ x ∷ []) ≡ step kind t x.line x.act
trace_one_more kind s t xs x is = trace_from-append kind s xs (x ∷ [])
    ∙ ap (λ (r : Result Tracing TraceFault). then_ok r (λ next. trace_from kind next (x ∷ []))) is
    ∙ then_last kind (step kind t x.line x.act)

-- the trace so far, of the steps taken
pub record IsTraced (kind : Module) (rules : List Rule) (whole : Bool) (base : Disk) (steps : List Step) (i : ℕ)
    (t : Trace) : Type 0 where
  pub same_base : t.log.base ≡ base
  pub same_kind : t.log.kind ≡ kind
  pub same_rules : t.log.rules ≡ rules
  pub same_whole : t.log.whole ≡ whole
  pub op_numbers : t.tracing.op_number ≤ i + 1
  pub so_far : trace_from kind (trace_start whole base) (take i steps) ≡ Ok t.tracing
  pub names : All GivesNames (take i steps)

module _ (kind : Module) (rules : List Rule) (whole : Bool) (base : Disk) (steps : List Step) (i : ℕ) (t : Trace)
    (x : Step) (inside : i < length steps) (read : x ≡ get_or steps i x)
    (is : IsTraced kind rules whole base steps i t) where
  with_next : take (i + 1) steps ≡ take i steps ++ x ∷ []
  with_next = take_more steps i x inside ∙ ap (λ (y : Step). take i steps ++ y ∷ []) (sym read)

  -- the steps taken with one more, and those after it
  after_step : (ys : List Step) → trace_from kind (trace_start whole base) (take i steps ++ x ∷ ys)
      ≡ then_ok (step kind t.tracing x.line x.act) (λ next. trace_from kind next ys)
  after_step ys = trace_from-append kind (trace_start whole base) (take i steps) (x ∷ ys)
      ∙ ap (λ (r : Result Tracing TraceFault). then_ok r (λ next. trace_from kind next (x ∷ ys))) is.so_far

  same_step : step t.log.kind t.tracing x.line x.act ≡ step kind t.tracing x.line x.act
  same_step = ap (λ (k : Module). step k t.tracing x.line x.act) is.same_kind

  pub step_taken : (next : Trace) → Moves t next (step t.log.kind t.tracing x.line x.act) → GivesNameIfAny x.act
      → IsTraced kind rules whole base steps (i + 1) next
  step_taken next moves named = record {
    same_base = moves.base ∙ is.same_base;
    same_kind = moves.kind ∙ is.same_kind;
    same_rules = moves.rules ∙ is.same_rules;
    same_whole = moves.whole ∙ is.same_whole;
    op_numbers = omega (arith, moves.op_numbers, is.op_numbers);
    so_far = ap (λ (xs : List Step). trace_from kind (trace_start whole base) xs) with_next ∙ after_step []
        ∙ ap (λ (r : Result Tracing TraceFault). then_ok r (λ next. trace_from kind next []))
        (sym same_step ∙ moves.answered);
    names = subst (λ (xs : List Step). All GivesNames xs) (sym with_next)
        (All-append GivesNames (take i steps) (x ∷ []) is.names
        (All-cons GivesNames x [] (λ op same. subst (λ (act : Act). GivesNameIfAny act) same named)
        (All-nil GivesNames)));
  }

  pub step_refused : (e : TraceFault) → step t.log.kind t.tracing x.line x.act ≡ Err e
      → trace_from kind (trace_start whole base) steps ≡ Err e
  step_refused e why =
      let all : steps ≡ take i steps ++ x ∷ drop (i + 1) steps =
      sym (take-append-drop (i + 1) steps) ∙ ap (λ (xs : List Step). xs ++ drop (i + 1) steps) with_next
      ∙ append_assoc (take i steps) (x ∷ []) (drop (i + 1) steps) in
      ap (λ (xs : List Step). trace_from kind (trace_start whole base) xs) all ∙ after_step (drop (i + 1) steps)
      ∙ ap (λ (r : Result Tracing TraceFault). then_ok r (λ next. trace_from kind next (drop (i + 1) steps)))
      (sym same_step ∙ why)

pub traced_start : (kind : Module) (rules : List Rule) (whole : Bool) (base : Disk) (steps : List Step) (t : Trace)
    → t.tracing ≡ trace_start whole base → t.log.base ≡ base → t.log.kind ≡ kind → t.log.rules ≡ rules
    → t.log.whole ≡ whole → IsTraced kind rules whole base steps 0 t
traced_start kind rules whole base steps t began same_base same_kind same_rules same_whole = record {
  same_base = same_base;
  same_kind = same_kind;
  same_rules = same_rules;
  same_whole = same_whole;
  op_numbers = omega (arith, ap (λ (s : Tracing). s.op_number) began);
  so_far = ap (λ (s : Tracing). Ok s) (sym began);
  names = All-nil GivesNames;
}

pub traced_end : (kind : Module) (rules : List Rule) (whole : Bool) (base : Disk) (steps : List Step) (i : ℕ)
    (t : Trace) → length steps ≤ i → IsTraced kind rules whole base steps i t
    → trace_from kind (trace_start whole base) steps ≡ Ok t.tracing
traced_end kind rules whole base steps i t past is = ap (λ (xs : List Step). trace_from kind
    (trace_start whole base) xs)
    (sym (take_all i steps past)) ∙ is.so_far

pub traced_names : (kind : Module) (rules : List Rule) (whole : Bool) (base : Disk) (steps : List Step) (i : ℕ)
    (t : Trace) → length steps ≤ i → IsTraced kind rules whole base steps i t → All GivesNames steps
traced_names kind rules whole base steps i t past is = subst (λ (xs : List Step). All GivesNames xs)
    (take_all i steps past) is.names
