-- The promises of a script, step by step.
use Rattle.std.proofs.Common.{◌≡◌, ℕ, zero, suc, ◌+◌, ◌<◌, ◌≤◌, List, [], ◌∷◌, length, drop, map, get_or, Bool, Ok, Err}
use Rattle.std.proofs.Common.{Result}
use Rattle.std.proofs.Common.{arith, refl, sym, ap, subst, ◌∙◌}
use Rattle.std.proofs.Math.Seq.{drop-cons}
use Rattle.std.proofs.lemmas.List.{length-map}
use Rattle.crash_model.specs.Disk.{Disk}
use Rattle.crash_model.specs.Patches.{Place, place, places_of}
use Rattle.crash_model.specs.Plan.{then_ok}
use Rattle.crash_model.specs.Promises.{promises_of}
use Rattle.crash_model.specs.Trace.{Emitted, trace_from, step}
use Rattle.crash_model.specs.Tracing.{Tracing, trace_start}
use Rattle.crash_model.specs.declared.modules.Module.{Module}
use Rattle.crash_model.specs.declared.patches.Patch.{Patch}
use Rattle.crash_model.specs.declared.refusals.TraceFault.{TraceFault}
use Rattle.crash_model.specs.declared.steps.Step.{Step}
use Rattle.order_modules.specs.Tracer.{Trace, Moves}
use Rattle.promise_steps.specs.Underway.{all_advanced, all_finished, all_ended}
use Rattle.promise_steps.proofs.Finished.{all_on, all_last}
use Rattle.promise_steps.proofs.Whole.{begins}
use Rattle.kept_promises.specs.Watched.{AreAt, unders_of}
use Rattle.kept_promises.specs.declared.promising.Promising.{Promising}

-- the promises of the steps so far, beside their trace
pub record IsPromising {A : Type 0} (kind : Module) (is_durable : Bool) (base : Disk) (steps : List Step) (i : ℕ)
    (t : Trace) (p : Promising A) : Type 0 where
  pub same_kind : t.log.kind ≡ kind
  pub op_numbers : t.tracing.op_number ≤ i + 1
  pub accepted : (last : Tracing) × (trace_from kind t.tracing (drop i steps) ≡ Ok last)
  pub found : all_finished kind is_durable t.tracing (drop i steps) (unders_of p)
      ≡ promises_of kind is_durable base steps
  pub at : AreAt p t.tracing
  pub durable : p.is_durable ≡ is_durable

then_taken : (r : Result Tracing TraceFault) (f : Tracing → Result Tracing TraceFault) (last : Tracing)
    → then_ok r f ≡ Ok last → (next : Tracing) × (r ≡ Ok next) × (f next ≡ Ok last)
then_taken (Ok next) f last is = (next, refl, is)
then_taken (Err fault) f last is = absurd (cc)

drop_none : {X : Type 0} (xs : List X) (n : ℕ) → length xs ≤ n → drop n xs ≡ []
drop_none [] zero past = refl
drop_none [] (suc n) past = refl
drop_none (x ∷ xs) zero past = absurd (omega (arith, past))
drop_none (x ∷ xs) (suc n) past = drop_none xs n (omega (arith, past))

module _ {A : Type 0} (kind : Module) (is_durable : Bool) (base : Disk) (steps : List Step) where
  pub begin : (whole : Bool) (t : Trace) (p : Promising A) → t.log.kind ≡ kind → t.tracing ≡ trace_start whole base
      → (last : Tracing) × (trace_from kind (trace_start whole base) steps ≡ Ok last) → unders_of p ≡ []
      → AreAt p t.tracing → p.is_durable ≡ is_durable → IsPromising kind is_durable base steps 0 t p
  begin whole t p same start accepted none at durable = record {
    same_kind = same;
    op_numbers = rw start (omega arith);
    accepted = rw start accepted;
    found = rw (start, none) (begins kind is_durable whole base steps);
    at = at;
    durable = durable;
  }

  module _ (i : ℕ) (t : Trace) (p : Promising A) (x : Step) (inside : i < length steps) (read : x ≡ get_or steps i x)
      (is : IsPromising kind is_durable base steps i t p) where
    rest_is : drop i steps ≡ x ∷ drop (i + 1) steps
    rest_is =
        let next : suc i ≡ i + 1 = omega arith in
        drop-cons steps i x inside
        ∙ (ap (λ (y : Step). y ∷ drop (suc i) steps) (sym read) ∙ ap (λ (n : ℕ). x ∷ drop n steps) next)

    taken : (next : Tracing) × (step kind t.tracing x.line x.act ≡ Ok next)
        × (trace_from kind next (drop (i + 1) steps) ≡ Ok is.accepted.0)
    taken = then_taken (step kind t.tracing x.line x.act)
        (λ next. trace_from kind next (drop (i + 1) steps)) is.accepted.0
        (sym (ap (trace_from kind t.tracing) rest_is) ∙ is.accepted.1)

    pub step_accepted : (next : Tracing) × (step t.log.kind t.tracing x.line x.act ≡ Ok next)
    step_accepted = (taken.0, ap (λ (k : Module). step k t.tracing x.line x.act) is.same_kind ∙ taken.1)

    pub step_goes : (u : Trace) → Moves t u (step t.log.kind t.tracing x.line x.act)
        → step kind t.tracing x.line x.act ≡ Ok u.tracing
    step_goes u moves = sym (ap (λ (k : Module). step k t.tracing x.line x.act) is.same_kind) ∙ moves.answered

    pub step_taken : (u : Trace) (q : Promising A) → Moves t u (step t.log.kind t.tracing x.line x.act)
        → unders_of q ≡ all_advanced p.is_durable (unders_of p) t.tracing x.line x.act u.tracing
        → AreAt q u.tracing → q.is_durable ≡ p.is_durable → IsPromising kind is_durable base steps (i + 1) u q
    step_taken u q moves advanced at durable =
        let goes : step kind t.tracing x.line x.act ≡ Ok u.tracing = step_goes u moves in
        let same : taken.0 ≡ u.tracing = let both : Ok taken.0 ≡ Ok u.tracing = sym taken.1 ∙ goes in cc in
        record {
          same_kind = moves.kind ∙ is.same_kind;
          op_numbers = omega (arith, moves.op_numbers, is.op_numbers);
          accepted = (
            is.accepted.0,
            subst (λ (next : Tracing). trace_from kind next (drop (i + 1) steps) ≡ Ok is.accepted.0) same taken.2,
          );
          found = ap (all_finished kind is_durable u.tracing (drop (i + 1) steps))
              (advanced ∙ ap (λ (b : Bool). all_advanced b (unders_of p) t.tracing x.line x.act u.tracing) is.durable)
              ∙ (sym (all_on kind is_durable t.tracing x (drop (i + 1) steps) (unders_of p) u.tracing goes)
              ∙ (ap (λ (xs : List Step). all_finished kind is_durable t.tracing xs (unders_of p)) (sym rest_is)
              ∙ is.found));
          at = at;
          durable = durable ∙ is.durable;
        }

  -- behind the last step
  pub ended : (i : ℕ) (t : Trace) (p : Promising A) → length steps ≤ i → IsPromising kind is_durable base steps i t p
      → all_ended t.tracing (unders_of p) ≡ promises_of kind is_durable base steps
  ended i t p past is =
      sym (all_last kind t.tracing is_durable (unders_of p))
      ∙ (ap (λ (xs : List Step). all_finished kind is_durable t.tracing xs (unders_of p)) (sym (drop_none steps i past))
      ∙ is.found)

-- as many patches as places
pub as_many : (patches : List Patch) (emitted : List Emitted) → places_of patches ≡ map (λ e. e.place) emitted
    → length patches ≡ length emitted
as_many patches emitted same =
    sym (length-map patches (λ (p : Patch). place p.block p.offset p.new.items))
    ∙ (ap (λ (ps : List Place). length ps) same ∙ length-map emitted (λ (e : Emitted). e.place))
