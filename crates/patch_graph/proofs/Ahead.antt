-- The ids of a set that come before each of some others of it, and the rest of the set.
use Rattle.std.proofs.Common.{◌≡◌, ◌≢◌, ℕ, ◌<◌, ◌++◌, bit_and, arith, sym, subst, inl, inr}
use mathlib.Core.Logic.{dite}
use native.Mathlib.Decide.{ℕ_discrete}
use Rattle.std.specs.Prelude.{◌↔◌, ◌⊎◌}
use Rattle.std.specs.Int.{bit_at}
use Rattle.std.proofs.lemmas.List.Elements.{Contains-append_cases, Contains-append_left, Contains-append_right}
use Rattle.std.proofs.lemmas.Nat.{and_le_r}
use Rattle.std.proofs.Math.Nat.{lt_of_not-le}
use Rattle.patch_sets.specs.Sets.{Has, has, ids_of}
use Rattle.patch_sets.specs.Ends.{IsLowest, IsDifference}
use Rattle.patch_sets.specs.Leading.{ComesBefore}
use Rattle.patch_sets.proofs.Bits.{and_from_subset}
use Rattle.patch_sets.proofs.Ids.{from_ids_of, to_ids_of, ids_ascend}
use Rattle.patch_sets.proofs.Lists.{one_ascending, pairs_append}
use Rattle.patch_graph.proofs.Fronts.{in_and, from_and}

-- the ids of a set in two parts, one before the other
ids_split : (n set first rest : ℕ) → ((q : ℕ) → Has set q → Has first q ⊎ Has rest q)
    → ((q : ℕ) → Has first q → Has set q) → ((q : ℕ) → Has rest q → Has set q)
    → ((x y : ℕ) → Has first x → Has rest y → x < y) → ids_of n set ≡ ids_of n first ++ ids_of n rest
ids_split n set first rest cases early late before = one_ascending (ids_of n set) (ids_of n first ++ ids_of n rest)
    (ids_ascend n (has set))
    (pairs_append (λ x y. x < y) (ids_of n first) (ids_of n rest) (ids_ascend n (has first)) (ids_ascend n (has rest))
    (λ x y a b. before x y (from_ids_of n first x a).1 (from_ids_of n rest y b).1))
    (λ z is. let it = from_ids_of n set z is in elim (cases z it.1) [
      | inl a ↦ Contains-append_left (ids_of n first) (ids_of n rest) z (to_ids_of n first z it.0 a)
      | inr b ↦ Contains-append_right (ids_of n first) (ids_of n rest) z (to_ids_of n rest z it.0 b)
    ])
    (λ z is. elim (Contains-append_cases (ids_of n first) (ids_of n rest) z is) [
      | inl a ↦ let it = from_ids_of n first z a in to_ids_of n set z it.0 (early z it.1)
      | inr b ↦ let it = from_ids_of n rest z b in to_ids_of n set z it.0 (late z it.1)
    ])

module _ (set others ahead rest : ℕ) (words : (q : ℕ) → Has set q → q < 128)
    (are_ahead : (q : ℕ) → Has ahead q ↔ ((q < 128) × ComesBefore others q))
    (is_rest : IsDifference set ahead rest) where
  ahead_or_rest : (q : ℕ) → Has set q → Has (bit_and set ahead) q ⊎ Has rest q
  ahead_or_rest q is = dite (ℕ_discrete (bit_at ahead q) 1) (λ early. inl (in_and set ahead q is early))
      (λ late. inr ((is_rest.exactly q).1 (is, late)))

  ahead_before_rest : (x y : ℕ) → Has (bit_and set ahead) x → Has rest y → x < y
  ahead_before_rest x y is later =
      let early = (are_ahead x).0 (from_and set ahead x is).1 in
      let late = (is_rest.exactly y).0 later in
      lt_of_not-le (λ le. late.1 ((are_ahead y).1 (
        words y late.0,
        λ other member. let less = early.1 other member in
            omega (arith, less, le),
      )))

  pub ahead_split : (n : ℕ) → ids_of n set ≡ ids_of n (bit_and set ahead) ++ ids_of n rest
  ahead_split n = ids_split n set (bit_and set ahead) rest ahead_or_rest (λ q is. (from_and set ahead q is).0)
      (λ q is. ((is_rest.exactly q).0 is).0) ahead_before_rest

  -- an id before each of the others is ahead
  pub is_ahead : (id : ℕ) → Has set id → ComesBefore others id → Has (bit_and set ahead) id
  is_ahead id is before = in_and set ahead id is ((are_ahead id).1 (words id is, before))

  -- what is ahead is not among the others
  pub not_other : (id : ℕ) → Has (bit_and set ahead) id → Has others id → ⊥
  not_other id is other = let again = ((are_ahead id).0 (from_and set ahead id is).1).1 id other in omega (arith, again)

  -- the rest begins with one of the others
  pub rest_begins : ((q : ℕ) → Has others q → Has set q) → (id : ℕ) → IsLowest rest id → Has others id
  rest_begins of_set id first = dite (ℕ_discrete (bit_at others id) 1) (λ is. is) (λ none. absurd (
      let it = (is_rest.exactly id).0 first.inside in
      it.1 ((are_ahead id).1 (
        words id it.0,
        λ other is.
            let past : Has ahead other → ⊥ = λ early. (let again = ((are_ahead other).0 early).1 other is in
            omega (arith, again)) in
            let least = first.least other ((is_rest.exactly other).1 (of_set other is, past)) in
            let ne : other ≢ id = λ e. none (subst (Has others) e is) in
            omega (arith, least, ne),
      ))))

  -- with an id ahead the rest is a smaller number
  pub rest_less : (id : ℕ) → Has (bit_and set ahead) id → rest < set
  rest_less id is =
      let part : bit_and rest set ≡ rest = and_from_subset rest set (λ q has_it. ((is_rest.exactly q).0 has_it).0) in
      let less = and_le_r rest set in
      let it = from_and set ahead id is in
      let other : rest ≢ set = λ e. ((is_rest.exactly id).0 (subst (λ s. Has s id) (sym e) it.0)).1 it.1 in
      omega (arith, part, less, other)
