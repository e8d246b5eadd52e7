-- Canonical order, and the list in this order being the only one.
use Rattle.std.proofs.Common.{◌≡◌, ◌≢◌, ℕ, zero, suc, ◌+◌, ◌<◌, List, length, get_or, arith, sym, subst, inl, inr}
use Rattle.std.proofs.Common.{add-one, is_lt, nat_cmp, false}
use Rattle.std.specs.Prelude.{◌⊎◌, count_ones}
use Rattle.std.specs.List.{AllPairs, Contains}
use Rattle.std.specs.Ordering.{ordering_then}
use Rattle.std.proofs.lemmas.Bool.Decides.{nat_tests}
use Rattle.std.proofs.lemmas.List.{get_or_default}
use Rattle.state_space.proofs.Counting.{below, same, above, order_of}
use Rattle.patch_sets.specs.Sets.{IsBefore, AreAllInOrder}
use Rattle.patch_sets.proofs.Bits.{eq_or_not}
use Rattle.patch_sets.proofs.Lists as lists

pub before_trans : (a b c : ℕ) → IsBefore a b → IsBefore b c → IsBefore a c
before_trans a b c (inl p) (inl q) = inl (omega arith)
before_trans a b c (inl p) (inr (q, r)) = inl (omega arith)
before_trans a b c (inr (p, s)) (inl q) = inl (omega arith)
before_trans a b c (inr (p, s)) (inr (q, r)) = inr (omega arith, omega arith)

pub before_self : (a : ℕ) → IsBefore a a → ⊥
before_self a (inl p) = omega arith
before_self a (inr (p, s)) = omega arith

-- the order of the keys by which sets are sorted, of two different sets
by_keys : (m n a b : ℕ) → is_lt (ordering_then (nat_cmp n m) (nat_cmp b a)) ≡ false → a ≢ b → (m < n)
    ⊎ ((m ≡ n) × (a < b))
by_keys m n a b = elim (order_of m n) [
  | below h ↦ λ up apart. inl h
  | same e ↦ elim (order_of a b) [
    | below h ↦ λ up apart. inr (e, h)
    | same f ↦ λ up apart. absurd (apart f)
    | above h ↦ λ up apart. grind (arith, nat_tests)
  ]
  | above h ↦ λ up apart. grind (arith, nat_tests)
]

pub before_by_keys : (a b : ℕ) → is_lt (ordering_then (nat_cmp (count_ones b) (count_ones a)) (nat_cmp b a)) ≡ false
    → a ≢ b → IsBefore a b
before_by_keys a b = by_keys (count_ones a) (count_ones b) a b

-- what comes right after each is after all
pub ordered_from_next : (xs : List ℕ) → ((k : ℕ) → k + 1 < length xs → IsBefore (get_or xs k 0) (get_or xs (k + 1) 0))
    → AllPairs IsBefore xs
ordered_from_next xs next i j d lt within =
    let far = reach_on j i lt within in
    subst (λ w. IsBefore w (get_or xs j d)) (get_or_default xs i 0 d (omega arith))
    (subst (IsBefore (get_or xs i 0)) (get_or_default xs j 0 d within) far)
  where
    reach_on : (j i : ℕ) → i < j → j < length xs → IsBefore (get_or xs i 0) (get_or xs j 0)
    reach_on zero i lt within = absurd (omega arith)
    reach_on (suc j) i lt within =
        let one : IsBefore (get_or xs j 0) (get_or xs (suc j) 0) = rw add-one at (next j (omega arith)) in
        elim (eq_or_not i j) [
          | inl e ↦ subst (λ n. IsBefore (get_or xs n 0) (get_or xs (suc j) 0)) (sym e) one
          | inr ne ↦ before_trans (get_or xs i 0) (get_or xs j 0) (get_or xs (suc j) 0)
              (reach_on j i (omega arith) (omega arith)) one
        ]

-- two lists in order with the same sets are equal
pub one_order : (xs ys : List ℕ) → AllPairs IsBefore xs → AllPairs IsBefore ys
    → ((z : ℕ) → Contains xs z → Contains ys z) → ((z : ℕ) → Contains ys z → Contains xs z) → xs ≡ ys
one_order = lists.one_order IsBefore before_trans before_self

-- there is one list of all sets with a property in order
pub one_list : (P : ℕ → Type 0) (xs ys : List ℕ) → AreAllInOrder P xs → AreAllInOrder P ys → xs ≡ ys
one_list P xs ys a b = one_order xs ys a.ordered b.ordered
    (λ z is. (b.exactly z).1 ((a.exactly z).0 is))
    (λ z is. (a.exactly z).1 ((b.exactly z).0 is))
