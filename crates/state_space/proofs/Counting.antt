-- How many different words there are.
use Rattle.std.proofs.Common.{◌≡◌, ◌≢◌, ℕ, zero, suc, ◌+◌, ◌-◌, ◌<◌, ◌≤◌, List, [], ◌∷◌, length, get_or, arith, refl}
use Rattle.std.proofs.Common.{sym, ap, ◌∙◌}
use Rattle.std.specs.List.{All, AllPairs, Contains, remove}
use Rattle.std.proofs.lemmas.List.{get_or_default}
use Rattle.std.proofs.lemmas.List.Elements.{All-weaker, All-head, All-tail, All-contains, All-from_get_or}
use Rattle.std.proofs.lemmas.List.Elements.{Contains-get_or}
use Rattle.std.proofs.lemmas.List.Edits.{length-remove, get_or-remove_below, get_or-remove_above}
use Rattle.state_space.specs.Counts.{IsSome, IsListOf, HoldsOf, Outnumbers}

-- how two numbers compare
pub data Order (a b : ℕ) : Type 0 where
  below : a < b → Order a b
  same : a ≡ b → Order a b
  above : b < a → Order a b

pub order_of : (a b : ℕ) → Order a b
order_of zero zero = same refl
order_of zero (suc b) = below (omega arith)
order_of (suc a) zero = above (omega arith)
order_of (suc a) (suc b) = elim (order_of a b) [
  | below h ↦ below (omega arith)
  | same e ↦ same (ap suc e)
  | above h ↦ above (omega arith)
]

-- another word is still there after one is taken out
pub in_remove : (ys : List ℕ) (i z k : ℕ) → i < length ys → k < length ys → k ≢ i → get_or ys k z ≡ z
    → Contains (remove ys i) z
in_remove ys i z k inside within other is =
    let shorter : length (remove ys i) + 1 ≡ length ys = length-remove ys i inside in
    elim (order_of k i) [
      | below h ↦ (k, omega arith, get_or-remove_below ys i z k h inside ∙ is)
      | same e ↦ absurd (other e)
      | above h ↦ (
        k - 1,
        omega arith,
        get_or-remove_above ys i z (k - 1) (omega arith) inside
            ∙ (ap (λ n. get_or ys n z) (omega arith) ∙ is),
      )
    ]

-- different words that are all in a list are no more than its elements
pub fits : (xs ys : List ℕ) → AllPairs (λ x y. x ≢ y) xs → All (Contains ys) xs → length xs ≤ length ys
fits [] ys apart all = omega arith
fits (x ∷ xs) ys apart all =
    let at = All-head (Contains ys) x xs all in
    let rest = remove ys at.0 in
    let shorter : length rest + 1 ≡ length ys = length-remove ys at.0 at.1 in
    let others : All (Contains rest) xs = All-from_get_or (Contains rest) xs 0 (λ j within.
    let z = get_or xs j 0 in
    let there : Contains ys z = All-contains (Contains ys) xs z (All-tail (Contains ys) x xs all)
    (Contains-get_or xs j 0 within) in
    in_remove ys at.0 z there.0 at.1 there.1
    (λ e. apart zero (suc j) 0 (omega arith) (omega arith)
    (sym at.2 ∙ (get_or_default ys at.0 x z at.1 ∙ (ap (λ n. get_or ys n z) (sym e) ∙ there.2)))) there.2) in
    omega (arith, fits xs rest (λ i j d lt within. apart (suc i) (suc j) d (omega arith) (omega arith)) others)

module _ (P : ℕ → Type 0) where
  no_more : (xs ys : List ℕ) → IsSome P xs → IsListOf P ys → length xs ≤ length ys
  no_more xs ys some list = fits xs ys some.distinct (All-from_get_or (Contains ys) xs 0
      (λ i within. list.every (get_or xs i 0) (some.each i 0 within)))

  pub one_number : (n m : ℕ) → HoldsOf P n → HoldsOf P m → n ≡ m
  one_number n m (xs, a, e) (ys, b, f) =
      omega (
        arith,
        e,
        f,
        no_more xs ys record { distinct = a.distinct; each = a.each } b,
        no_more ys xs record { distinct = b.distinct; each = b.each } a,
      )

  pub not_more : (n limit : ℕ) → HoldsOf P n → n ≤ limit → Outnumbers P limit → ⊥
  not_more n limit (xs, a, e) within (ys, b, more) = omega (arith, e, more, no_more ys xs b a)

-- a list of the same length with all the words has each of them once
pub distinct_again : (xs ys : List ℕ) → AllPairs (λ x y. x ≢ y) xs → length ys ≡ length xs → All (Contains ys) xs
    → AllPairs (λ x y. x ≢ y) ys
distinct_again xs ys apart long all i j d lt within twice =
    let shorter : length (remove ys j) + 1 ≡ length ys = length-remove ys j within in
    let still : All (Contains (remove ys j)) xs = All-from_get_or (Contains (remove ys j)) xs 0 (λ n inside.
    let z = get_or xs n 0 in
    let there : Contains ys z = All-contains (Contains ys) xs z all (Contains-get_or xs n 0 inside) in
    elim (order_of there.0 j) [
      | below h ↦ in_remove ys j z there.0 within there.1 (λ e. omega (arith, e)) there.2
      | same e ↦ in_remove ys j z i within (omega arith) (λ e. omega (arith, e))
          (get_or_default ys i z d (omega arith) ∙ (twice ∙ (get_or_default ys j d z within
          ∙ (ap (λ n. get_or ys n z) (sym e) ∙ there.2))))
      | above h ↦ in_remove ys j z there.0 within there.1 (λ e. omega (arith, e)) there.2
    ]) in
    omega (arith, fits xs (remove ys j) apart still)

-- the same of a fact that holds of the same words
module _ (P Q : ℕ → Type 0) (to : (w : ℕ) → P w → Q w) (from : (w : ℕ) → Q w → P w) where
  pub some_like : (xs : List ℕ) → IsSome P xs → IsSome Q xs
  some_like xs some = record { distinct = some.distinct; each = All-weaker P Q to xs some.each }

  pub number_like : (n : ℕ) → HoldsOf P n → HoldsOf Q n
  number_like n (xs, list, is) = (
    xs,
    record {
      distinct = list.distinct;
      each = All-weaker P Q to xs list.each;
      every = λ w q. list.every w (from w q);
    },
    is,
  )

  pub outnumbers_like : (limit : ℕ) → Outnumbers P limit → Outnumbers Q limit
  outnumbers_like limit (xs, some, more) = (xs, some_like xs some, more)
