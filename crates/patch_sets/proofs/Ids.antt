-- The ids below a number that pass a test, ascending.
use Rattle.std.proofs.Common.{◌≡◌, ℕ, zero, suc, ◌+◌, ◌<◌, Bool, true, false, cond, List, [], ◌∷◌, ◌++◌, map, length}
use Rattle.std.proofs.Common.{get_or, arith, refl, sym, subst, ap, ◌∙◌, inl, inr, add-one, length-append}
use Rattle.std.specs.Prelude.{◌==◌}
use Rattle.std.specs.Int.{bit_at}
use Rattle.std.specs.List.{filter, range_with_len, AllPairs, Contains}
use Rattle.std.proofs.lemmas.Bool.Decides.{eqb_tells}
use Rattle.std.proofs.lemmas.List.{get_or_append_left, get_or_push}
use Rattle.std.proofs.lemmas.List.Elements.{Contains-append_cases, Contains-append_left, Contains-append_right}
use Rattle.std.proofs.lemmas.List.FromFn.{filter_of_map_range_with_len_more, length-range_with_len}
use Rattle.std.proofs.lemmas.List.FromFn.{get_or-range_with_len}
use Rattle.std.proofs.lemmas.List.Kept.{AllPairs-filter}
use Rattle.patch_sets.specs.Sets.{Has, has, ids_below, ids_of}
use Rattle.patch_sets.proofs.Bits.{eq_or_not}

-- ---- tests

pub true_from_eq : (a b : ℕ) → a ≡ b → (a == b) ≡ true
true_from_eq a b e = grind (arith, eqb_tells a b)

pub eq_from_true : (a b : ℕ) → (a == b) ≡ true → a ≡ b
eq_from_true a b e = grind (arith, eqb_tells a b)

pub false_from_ne : (a b : ℕ) → (a ≡ b → ⊥) → (a == b) ≡ false
false_from_ne a b e = grind (arith, eqb_tells a b)

pub ne_from_false : (a b : ℕ) → (a == b) ≡ false → a ≡ b → ⊥
ne_from_false a b e = grind (arith, eqb_tells a b)

pub has_true : (set id : ℕ) → Has set id → has set id ≡ true
has_true set id is = true_from_eq (bit_at set id) 1 is

pub has_false : (set id : ℕ) → (Has set id → ⊥) → has set id ≡ false
has_false set id is_not = false_from_ne (bit_at set id) 1 is_not

pub from_has : (set id : ℕ) → has set id ≡ true → Has set id
from_has set id = eq_from_true (bit_at set id) 1

-- ---- one number more

pub ids_more : (n : ℕ) (pass : ℕ → Bool) → ids_below (n + 1) pass ≡ ids_below n pass ++ cond (pass n) (n ∷ []) []
ids_more n pass = subst (λ xs. filter pass xs ≡ ids_below n pass ++ cond (pass n) (n ∷ []) [])
    (map_id (range_with_len 0 (n + 1)))
    (filter_of_map_range_with_len_more pass (λ k. k) 0 n n (omega arith)
    ∙ ap (λ xs. filter pass xs ++ cond (pass n) (n ∷ []) []) (map_id (range_with_len 0 n)))
  where
    map_id : (xs : List ℕ) → map (λ k. k) xs ≡ xs
    map_id [] = refl
    map_id (x ∷ xs) = ap (λ ys. x ∷ ys) (map_id xs)

pub ids_suc : (n : ℕ) (pass : ℕ → Bool) → ids_below (suc n) pass ≡ ids_below n pass ++ cond (pass n) (n ∷ []) []
ids_suc n pass = ap (λ m. ids_below m pass) (sym (add-one n)) ∙ ids_more n pass

pub ids_push : (n : ℕ) (pass : ℕ → Bool) → pass n ≡ true → ids_below (n + 1) pass ≡ ids_below n pass ++ n ∷ []
ids_push n pass is = ids_more n pass ∙ ap (λ b. ids_below n pass ++ cond b (n ∷ []) []) is

-- ---- which ids they are

in_cond : (b : Bool) (n id : ℕ) → Contains (cond b (n ∷ []) []) id → (b ≡ true) × (id ≡ n)
in_cond true n id (zero, within, is) = (refl, sym is)
in_cond true n id (suc k, within, is) = absurd (omega arith)
in_cond false n id (k, within, is) = absurd (omega arith)

pub from_ids : (n : ℕ) (pass : ℕ → Bool) (id : ℕ) → Contains (ids_below n pass) id → (id < n) × (pass id ≡ true)
from_ids zero pass id (k, within, is) = absurd (omega arith)
from_ids (suc n) pass id is = elim (Contains-append_cases (ids_below n pass) (cond (pass n) (n ∷ []) []) id
    (subst (λ xs. Contains xs id) (ids_suc n pass) is)) [
      | inl low ↦ let it = from_ids n pass id low in (omega (arith, it.0), it.1)
      | inr top ↦ let it = in_cond (pass n) n id top in (omega (arith, it.1), ap pass it.1 ∙ it.0)
    ]

pub to_ids : (n : ℕ) (pass : ℕ → Bool) (id : ℕ) → id < n → pass id ≡ true → Contains (ids_below n pass) id
to_ids zero pass id below is = absurd (omega arith)
to_ids (suc n) pass id below is = subst (λ xs. Contains xs id) (sym (ids_suc n pass)) (elim (eq_or_not id n) [
  | inl e ↦ Contains-append_right (ids_below n pass) _ id
      (subst (λ b. Contains (cond b (n ∷ []) []) id) (sym (ap pass (sym e) ∙ is)) (zero, omega arith, sym e))
  | inr ne ↦ Contains-append_left (ids_below n pass) _ id (to_ids n pass id (omega arith) is)
])

pub from_ids_of : (n set id : ℕ) → Contains (ids_of n set) id → (id < n) × Has set id
from_ids_of n set id is = let it = from_ids n (has set) id is in (it.0, from_has set id it.1)

pub to_ids_of : (n set id : ℕ) → id < n → Has set id → Contains (ids_of n set) id
to_ids_of n set id below is = to_ids n (has set) id below (has_true set id is)

-- they ascend
pub ids_ascend : (n : ℕ) (pass : ℕ → Bool) → AllPairs (λ x y. x < y) (ids_below n pass)
ids_ascend n pass = AllPairs-filter (λ x y. x < y) pass (range_with_len 0 n) (λ i j d before within.
    let far : j < n = omega (arith, within, length-range_with_len 0 n) in
    let near : i < n = omega arith in
    let at_i : get_or (range_with_len 0 n) i d ≡ 0 + i = get_or-range_with_len 0 n i d near in
    let at_j : get_or (range_with_len 0 n) j d ≡ 0 + j = get_or-range_with_len 0 n j d far in
    omega (arith, at_i, at_j))

-- ---- the place of an id

-- fewer come before an id that passes
pub fewer_before : (n : ℕ) (pass : ℕ → Bool) (id : ℕ) → id < n → pass id ≡ true
    → length (ids_below id pass) < length (ids_below n pass)
fewer_before zero pass id below is = absurd (omega arith)
fewer_before (suc n) pass id below is = rw (ids_suc n pass) (elim (eq_or_not id n) [
  | inl e ↦ rw (e, ap pass (sym e) ∙ is) (omega (arith, length-append (ids_below n pass) (n ∷ [])))
  | inr ne ↦ omega (
    arith,
    fewer_before n pass id (omega arith) is,
    length-append (ids_below n pass) (cond (pass n) (n ∷ []) []),
  )
])

-- the place of an id that passes
pub id_at : (n : ℕ) (pass : ℕ → Bool) (id : ℕ) → id < n → pass id ≡ true
    → get_or (ids_below n pass) (length (ids_below id pass)) 0 ≡ id
id_at zero pass id below is = absurd (omega arith)
id_at (suc n) pass id below is = ap (λ xs. get_or xs (length (ids_below id pass)) 0) (ids_suc n pass)
    ∙ elim (eq_or_not id n) [
      | inl e ↦ ap (λ m. get_or (ids_below n pass ++ cond (pass n) (n ∷ []) []) (length (ids_below m pass)) 0) e
          ∙ (ap (λ b. get_or (ids_below n pass ++ cond b (n ∷ []) []) (length (ids_below n pass)) 0)
          (ap pass (sym e) ∙ is)
          ∙ (get_or_push (ids_below n pass) n 0 (length (ids_below n pass)) refl ∙ sym e))
      | inr ne ↦ get_or_append_left (ids_below n pass) (cond (pass n) (n ∷ []) []) 0 (length (ids_below id pass))
          (fewer_before n pass id (omega arith) is) ∙ id_at n pass id (omega arith) is
    ]
