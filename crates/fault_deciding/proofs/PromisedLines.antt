-- The lines of promises, listed one by one.
use Rattle.std.proofs.Common.{◌≡◌, ℕ, ◌+◌, ◌<◌, List, [], ◌∷◌, ◌++◌, length, take, get_or, sym, subst}
use Rattle.std.specs.List.{Contains}
use Rattle.std.proofs.lemmas.List.Elements.{All-more, All-weaker, Contains-append_left, Contains-push}
use Rattle.crash_model.specs.Promises.{Promise}
use Rattle.crash_model.specs.declared.fault.Fault.{Fault}
use Rattle.crash_model.specs.declared.fault.Fault.TheVariants.{BrokenPromise}
use Rattle.fault_deciding.specs.Listed.{IsWithin, HasPromised}

module _ (old new : List Fault) (fault : Fault) (push : new ≡ old ++ fault ∷ []) where
  pub pushed_within : IsWithin old new
  pushed_within f is = subst (λ (fs : List Fault). Contains fs f) (sym push)
      (Contains-append_left old (fault ∷ []) f is)

  pub pushed_in : Contains new fault
  pushed_in = subst (λ (fs : List Fault). Contains fs fault) (sym push) (Contains-push old fault)

-- that of one promise more
pub promised_more : (ps : List Promise) (i line : ℕ) (p : Promise) (old new : List Fault) → i < length ps
    → p ≡ get_or ps i p → line ≡ p.line → new ≡ old ++ BrokenPromise line ∷ []
    → HasPromised (take i ps) old → HasPromised (take (i + 1) ps) new
promised_more ps i line p old new below is same push listed =
    let P : Promise → Type 0 = λ q. Contains new (BrokenPromise q.line) in
    let O : Promise → Type 0 = λ q. Contains old (BrokenPromise q.line) in
    All-more P ps i p below
    (All-weaker O P (λ q has. pushed_within old new (BrokenPromise line) push (BrokenPromise q.line) has) (take i ps)
    listed)
    (subst P is (subst (λ (n : ℕ). Contains new (BrokenPromise n)) same (pushed_in old new (BrokenPromise line) push)))
