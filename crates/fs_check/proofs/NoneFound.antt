-- Where tests find nothing, and where lists are empty.
use Rattle.std.proofs.Common.{◌≡◌, ℕ, zero, suc, ◌+◌, ◌<◌, ◌≤◌, inl, inr, List, [], ◌∷◌, ◌++◌, length, get_or, take}
use Rattle.std.proofs.Common.{Bool, true}
use Rattle.std.proofs.Common.{false, Option, Some, None, arith, refl, sym, subst, ap, ◌∙◌}
use Rattle.std.proofs.lemmas.Bool.{false≢true, cases_eq}
use Rattle.std.proofs.lemmas.List.{append-nil, take_more}
use Rattle.std.proofs.lemmas.List.Elements.{filter_map-append}
use Rattle.std.specs.Prelude.{is_some}
use Rattle.std.specs.List.{cons_option, filter_map}
use Rattle.crash_model.specs.Lists.{some_below, when}

-- ---- elements

pub is_some-when : {X : Type 0} (test : Bool) (x : X) → is_some (when test x) ≡ test
is_some-when true x = refl
is_some-when false x = refl

-- from one number to another there is none
pub none_between : {X : Type 0} (at : ℕ → Option X) (n m : ℕ) → n ≤ m
    → ((k : ℕ) → n ≤ k → k < m → at k ≡ None) → some_below m at ≡ some_below n at
unfolding some_below
none_between at n zero le none =
    let same : zero ≡ n = omega arith in subst (λ (k : ℕ). some_below zero at ≡ some_below k at) same refl
none_between at n (suc m) le none = elim (cases_eq n (suc m)) [
  | inl same ↦ subst (λ (k : ℕ). some_below (suc m) at ≡ some_below k at) (sym same) refl
  | inr other ↦ rw (none m (omega arith) (omega arith), append-nil (some_below m at))
      (none_between at n m (omega arith) (λ k from below. none k from (omega arith)))
]

-- ---- what a test finds in a list

module _ {X Y : Type 0} (f : X → Option Y) where
  rest_none : (o : Option Y) (ys : List Y) → cons_option o ys ≡ [] → (o ≡ None) × (ys ≡ [])
  rest_none None ys none = (refl, none)
  rest_none (Some y) ys none = cc

  pub mapped_found : (xs : List X) (i : ℕ) (d : X) → i < length xs → is_some (f (get_or xs i d)) ≡ true
      → filter_map f xs ≡ [] → ⊥
  mapped_found [] i d below here none = absurd (omega arith)
  mapped_found (x ∷ xs) zero d below here none =
      let is : f x ≡ None = (rest_none (f x) (filter_map f xs) none).0 in
      false≢true (sym (ap is_some is) ∙ here)
  mapped_found (x ∷ xs) (suc i) d below here none =
      mapped_found xs i d (omega arith) here (rest_none (f x) (filter_map f xs) none).1

  pub mapped_none : (xs : List X) (i : ℕ) (d : X) → i < length xs → is_some (f (get_or xs i d)) ≡ false
      → filter_map f (take i xs) ≡ [] → filter_map f (take (i + 1) xs) ≡ []
  mapped_none xs i d below here none = ap (filter_map f) (take_more xs i d below)
      ∙ (filter_map-append f (take i xs) (get_or xs i d ∷ [])
      ∙ (ap (λ (ys : List Y). ys ++ filter_map f (get_or xs i d ∷ [])) none ∙ single (f (get_or xs i d)) here))
    where
      single : (o : Option Y) → is_some o ≡ false → cons_option o [] ≡ []
      single None is = refl
      single (Some y) is = absurd (false≢true (sym is))
