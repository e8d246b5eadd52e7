-- The first element that passes a test, looked for one by one.
use Rattle.std.proofs.Common.{◌≡◌, ℕ, zero, suc, ◌+◌, ◌<◌, ◌≤◌, List, [], ◌∷◌, length, get_or, take, Bool, true, false}
use Rattle.std.proofs.Common.{cond}
use Rattle.std.proofs.Common.{Option, Some, None, arith, refl, sym, ap, ◌∙◌, add-one}
use Rattle.std.specs.List.{find}
use Rattle.std.proofs.lemmas.List.{take_all}

module _ {X : Type 0} (p : X → Bool) where
  -- neither the first nor a later one
  neither : (b : Bool) (x : X) (rest : Option X) → cond b (Some x) rest ≡ None → (b ≡ false) × (rest ≡ None)
  neither true x rest none = cc
  neither false x rest none = (refl, none)

  more : (xs : List X) (i : ℕ) (d : X) → i < length xs → find p (take i xs) ≡ None → p (get_or xs i d) ≡ false
      → find p (take (suc i) xs) ≡ None
  more [] i d below none fails = absurd (omega arith)
  more (x ∷ xs) zero d below none fails = rw fails refl
  more (x ∷ xs) (suc i) d below none fails =
      let parts = neither (p x) x (find p (take i xs)) none in
      rw parts.0 (more xs i d (omega arith) parts.1 fails)

  pub find_more : (xs : List X) (i : ℕ) (d : X) → i < length xs → find p (take i xs) ≡ None → p (get_or xs i d) ≡ false
      → find p (take (i + 1) xs) ≡ None
  find_more xs i d below none fails = ap (λ (n : ℕ). find p (take n xs)) (add-one i) ∙ more xs i d below none fails

  pub find_here : (xs : List X) (i : ℕ) (d : X) → i < length xs → find p (take i xs) ≡ None → p (get_or xs i d) ≡ true
      → find p xs ≡ Some (get_or xs i d)
  find_here [] i d below none passes = absurd (omega arith)
  find_here (x ∷ xs) zero d below none passes = rw passes refl
  find_here (x ∷ xs) (suc i) d below none passes =
      let parts = neither (p x) x (find p (take i xs)) none in
      rw parts.0 (find_here xs i d (omega arith) parts.1 passes)

  pub find_all : (xs : List X) (n : ℕ) → length xs ≤ n → find p (take n xs) ≡ None → find p xs ≡ None
  find_all xs n whole none = sym (ap (find p) (take_all n xs whole)) ∙ none
