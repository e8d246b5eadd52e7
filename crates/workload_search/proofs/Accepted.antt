-- What is accepted: the beginnings of what is accepted.
use Rattle.std.proofs.Common.{◌≡◌, ℕ, zero, suc, List, [], ◌∷◌, ◌++◌, false, true, arith, refl, sym, ap, ◌∙◌}
use Rattle.std.specs.Prelude.{IsTrue, Result, Ok, Err, slice_get, option_to_list}
use Rattle.std.specs.List.{All}
use Rattle.std.proofs.lemmas.List.{append_assoc}
use Rattle.std.proofs.lemmas.List.Concat.{flat_map-append}
use Rattle.crash_model.specs.Plan.{then_ok}
use Rattle.crash_model.specs.Trace.{trace_from, step}
use Rattle.crash_model.specs.Tracing.{Tracing, trace_start}
use Rattle.crash_model.specs.declared.modules.Module.{Module}
use Rattle.crash_model.specs.declared.refusals.TraceFault.{TraceFault}
use Rattle.crash_model.specs.declared.steps.Act.{Act}
use Rattle.crash_model.specs.declared.steps.Act.TheVariants.{Do, Group, End, Depend, Sync, Fsync, Keep, Hold, Spare}
use Rattle.crash_model.specs.declared.steps.Step.{Step}
use Rattle.question_model.specs.Workloads.{Search, is_keep, steps_at, workload_at, trace_at}
use Rattle.question_model.specs.Verdict.{IsAccepted}

-- what goes on well began well
began : (r : Result Tracing TraceFault) (next : Tracing → Result Tracing TraceFault) (last : Tracing)
    → then_ok r next ≡ Ok last → (mid : Tracing) × (r ≡ Ok mid) × (next mid ≡ Ok last)
began (Ok mid) next last e = (mid, refl, e)
began (Err fault) next last e = absurd cc

front_traced : (kind : Module) (s : Tracing) (xs ys : List Step) (last : Tracing)
    → trace_from kind s (xs ++ ys) ≡ Ok last → (mid : Tracing) × (trace_from kind s xs ≡ Ok mid)
front_traced kind s [] ys last e = (s, refl)
front_traced kind s (x ∷ xs) ys last e =
    let first = began (step kind s x.line x.act) (λ next. trace_from kind next (xs ++ ys)) last e in
    let rest = front_traced kind first.0 xs ys last first.2 in (
      rest.0,
      ap (λ (r : Result Tracing TraceFault). then_ok r (λ next. trace_from kind next xs)) first.1
          ∙ rest.1,
    )

pub accepted_front : (s : Search) (front rest : List ℕ) → IsAccepted s (front ++ rest) → IsAccepted s front
accepted_front s front rest (last, e) = front_traced s.ordering (trace_start s.whole s.base) (workload_at s front)
    (steps_at s.pool rest) last
    (ap (λ (steps : List Step). trace_from s.ordering (trace_start s.whole s.base) steps)
    (append_assoc s.keeps (steps_at s.pool front) (steps_at s.pool rest)
    ∙ ap (λ (steps : List Step). s.keeps ++ steps)
    (sym (flat_map-append (λ place. option_to_list (slice_get s.pool place)) front rest)))
    ∙ e)

-- a promise of each workload refuses nothing
keep_step : (kind : Module) (s : Tracing) (line : ℕ) (act : Act) → IsTrue (is_keep act) → step kind s line act ≡ Ok s
keep_step kind s line (Keep paths) is = refl
keep_step kind s line (Do op) is = absurd (let no : false ≡ true = is in cc)
keep_step kind s line (Group name) is = absurd (let no : false ≡ true = is in cc)
keep_step kind s line End is = absurd (let no : false ≡ true = is in cc)
keep_step kind s line (Depend b a) is = absurd (let no : false ≡ true = is in cc)
keep_step kind s line Sync is = absurd (let no : false ≡ true = is in cc)
keep_step kind s line (Fsync target) is = absurd (let no : false ≡ true = is in cc)
keep_step kind s line (Hold path) is = absurd (let no : false ≡ true = is in cc)
keep_step kind s line (Spare path other) is = absurd (let no : false ≡ true = is in cc)

keeps_traced : (kind : Module) (s : Tracing) (keeps : List Step) → All (λ step. IsTrue (is_keep step.act)) keeps
    → trace_from kind s (keeps ++ []) ≡ Ok s
keeps_traced kind s [] are = refl
keeps_traced kind s (x ∷ xs) are =
    ap (λ (r : Result Tracing TraceFault). then_ok r (λ next. trace_from kind next (xs ++ [])))
    (keep_step kind s x.line x.act (are zero x (omega arith)))
    ∙ keeps_traced kind s xs (λ k d low. are (suc k) d (omega (arith, low)))

-- so nothing is refused before the first operation, where workloads begin with promises
pub keeps_accepted : (s : Search) → All (λ step. IsTrue (is_keep step.act)) s.keeps → IsAccepted s []
keeps_accepted s are = (trace_start s.whole s.base, keeps_traced s.ordering (trace_start s.whole s.base) s.keeps are)

pub not_both : (s : Search) (places : List ℕ) (fault : TraceFault) (last : Tracing) → trace_at s places ≡ Err fault
    → trace_at s places ≡ Ok last → ⊥
not_both s places fault last refused traced =
    let both : ◌≡◌ {A = Result Tracing TraceFault} (Err fault) (Ok last) = sym refused ∙ traced in cc
