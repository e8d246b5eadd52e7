-- What a search for the lowest number found.
use Rattle.std.proofs.Common.{◌≡◌, ℕ, zero, suc, ◌<◌, Bool, true, false, Option, Some, None, arith, refl, sym, ◌∙◌, ap}
use Rattle.std.proofs.Common.{inl, inr}
use Rattle.std.specs.Option.{option_or}
use Rattle.std.proofs.lemmas.Bool.{cases_eq}
use Rattle.crash_model.specs.Lists.{first_below, when}

-- the lowest number below n at which a test holds
pub record Found (n : ℕ) (test : ℕ → Bool) (k : ℕ) : Type 0 where
  pub below : k < n
  pub holds : test k ≡ true
  pub lower : (j : ℕ) → j < k → test j ≡ false

pub first_below-is_none : (n : ℕ) (test : ℕ → Bool) → first_below n test ≡ None → (k : ℕ) → k < n → test k ≡ false
unfolding first_below
first_below-is_none zero test e k below = absurd (omega arith)
first_below-is_none (suc n) test e k below = go (λ p less. first_below-is_none n test p k less) (first_below n test)
    refl (test n) refl e
  where
    go : (first_below n test ≡ None → k < n → test k ≡ false) → (o : Option ℕ) → first_below n test ≡ o → (b : Bool)
        → test n ≡ b → option_or o (when b n) ≡ None → test k ≡ false
    go before (Some x) p b q r = cc
    go before None p true q r = cc
    go before None p false q r = elim (cases_eq k n) [ inl e ↦ ap test e ∙ q | inr other ↦ before p (omega arith) ]

pub first_below-is_some : (n : ℕ) (test : ℕ → Bool) (k : ℕ) → first_below n test ≡ Some k → Found n test k
unfolding first_below
first_below-is_some zero test k e = cc
first_below-is_some (suc n) test k e = go (λ p. first_below-is_some n test k p) (first_below n test) refl (test n) refl
    e
  where
    go : (first_below n test ≡ Some k → Found n test k) → (o : Option ℕ) → first_below n test ≡ o → (b : Bool)
        → test n ≡ b → option_or o (when b n) ≡ Some k → Found (suc n) test k
    go before (Some x) p b q r =
        let same : first_below n test ≡ Some k = p ∙ r in
        let f = before same in
        record { below = omega (arith, f.below); holds = f.holds; lower = f.lower }
    go before None p true q r =
        let same : n ≡ k = cc in
        record {
          below = omega arith;
          holds = ap test (sym same) ∙ q;
          lower = λ j less. first_below-is_none n test p j (omega arith);
        }
    go before None p false q r = cc
