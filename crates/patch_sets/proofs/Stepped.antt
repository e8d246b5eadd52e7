-- The ids of a set, the lowest of them first.
use Rattle.std.proofs.Common.{◌≡◌, ◌≢◌, ℕ, zero, suc, ◌+◌, ◌-◌, ◌*◌, ◌%◌, ◌^◌, ◌<◌, ◌≤◌, Bool, true, false, cond, ◌↔◌}
use Rattle.std.proofs.Common.{List, [], ◌∷◌, ◌++◌, length, Option, Some, None, arith, refl, sym, subst, ap, ◌∙◌, inl}
use Rattle.std.proofs.Common.{inr}
use Rattle.std.specs.Iterator.{YieldsFirst}
use Rattle.std.proofs.lemmas.Nat.{one_shl}
use Rattle.patch_sets.specs.Sets.{Has, has, ids_of}
use Rattle.patch_sets.specs.Ends.{IsLowest, IsWithout}
use Rattle.patch_sets.specs.Iter.{most_ids, ids_left}
use Rattle.patch_sets.specs.declared.iter.Ids.{Ids}
use Rattle.patch_sets.proofs.Bits.{eq_or_not, none_in_empty, in_low, from_low, below_from_small}
use Rattle.patch_sets.proofs.Ids.{has_true, has_false, from_has, ids_suc}

same_bool : (x y : Bool) → (x ≡ true → y ≡ true) → (y ≡ true → x ≡ true) → x ≡ y
same_bool true y to from = sym (to refl)
same_bool false true to from = from refl
same_bool false false to from = refl

has_same : (a b id : ℕ) → (Has a id ↔ Has b id) → has a id ≡ has b id
has_same a b id both = same_bool (has a id) (has b id) (λ t. has_true b id (both.0 (from_has a id t)))
    (λ t. has_true a id (both.1 (from_has b id t)))

-- sets with the same ids below n
ids_same : (n a b : ℕ) → ((q : ℕ) → q < n → has a q ≡ has b q) → ids_of n a ≡ ids_of n b
ids_same zero a b same = refl
ids_same (suc n) a b same =
    ids_suc n (has a) ∙ (ap (λ (xs : List ℕ). xs ++ cond (has a n) (n ∷ []) [])
    (ids_same n a b (λ q below. same q (omega arith)))
    ∙ (ap (λ (t : Bool). ids_of n b ++ cond t (n ∷ []) []) (same n (omega arith)) ∙ sym (ids_suc n (has b))))

pub ids_none : (n set : ℕ) → ((q : ℕ) → q < n → Has set q → ⊥) → ids_of n set ≡ []
ids_none zero set none = refl
ids_none (suc n) set none =
    ids_suc n (has set) ∙ (ap (λ (xs : List ℕ). xs ++ cond (has set n) (n ∷ []) [])
    (ids_none n set (λ q below. none q (omega arith)))
    ∙ ap (λ (t : Bool). cond t (n ∷ []) []) (has_false set n (none n (omega arith))))

-- a set whose ids are below n has none from n on
ids_beyond : (n k set : ℕ) → ((q : ℕ) → n ≤ q → Has set q → ⊥) → ids_of (k + n) set ≡ ids_of n set
ids_beyond n zero set none = ap (λ (m : ℕ). ids_of m set) (let e : 0 + n ≡ n = omega arith in e)
ids_beyond n (suc k) set none =
    let next : suc k + n ≡ suc (k + n) = omega arith in
    ap (λ (m : ℕ). ids_of m set) next ∙ (ids_suc (k + n) (has set)
    ∙ (ap (λ (t : Bool). ids_of (k + n) set ++ cond t ((k + n) ∷ []) [])
    (has_false set (k + n) (none (k + n) (omega arith)))
    ∙ (append_nil (ids_of (k + n) set) ∙ ids_beyond n k set none)))
  where
    append_nil : (xs : List ℕ) → xs ++ [] ≡ xs
    append_nil [] = refl
    append_nil (x ∷ xs) = ap (λ (ys : List ℕ). x ∷ ys) (append_nil xs)

-- the lowest id, and then those of the rest
pub ids_lowest : (n set id rest : ℕ) → id < n → IsLowest set id → IsWithout set id rest
    → ids_of n set ≡ id ∷ ids_of n rest
ids_lowest zero set id rest below lowest less = absurd (omega arith)
ids_lowest (suc n) set id rest below lowest less = elim (eq_or_not id n) [
  | inl e ↦
      let had : has set n ≡ true = has_true set n (subst (λ (m : ℕ). Has set m) e lowest.inside) in
      let gone : has rest n ≡ false = has_false rest n (subst (λ (m : ℕ). Has rest m → ⊥) e less.gone) in
      let before : ids_of n set ≡ [] = ids_none n set (λ q under is. let least = lowest.least q is in omega arith) in
      let after : ids_of n rest ≡ [] = ids_none n rest (λ q under is. let ne : q ≢ id = omega arith in
      let least = lowest.least q ((less.others q ne).0 is) in omega arith) in
      (ids_suc n (has set) ∙ (ap (λ (xs : List ℕ). xs ++ cond (has set n) (n ∷ []) []) before
      ∙ (ap (λ (t : Bool). cond t (n ∷ []) []) had ∙ ap (λ (m : ℕ). m ∷ []) (sym e))))
      ∙ ap (λ (xs : List ℕ). id ∷ xs) (sym (ids_suc n (has rest)
      ∙ (ap (λ (xs : List ℕ). xs ++ cond (has rest n) (n ∷ []) []) after
      ∙ ap (λ (t : Bool). cond t (n ∷ []) []) gone)))
  | inr ne ↦
      let other : n ≢ id = λ e. ne (sym e) in
      let same : has set n ≡ has rest n = sym (has_same rest set n (less.others n other)) in
      ids_suc n (has set) ∙ (ap (λ (xs : List ℕ). xs ++ cond (has set n) (n ∷ []) [])
      (ids_lowest n set id rest (omega arith) lowest less)
      ∙ (ap (λ (t : Bool). id ∷ (ids_of n rest ++ cond t (n ∷ []) [])) same
      ∙ ap (λ (xs : List ℕ). id ∷ xs) (sym (ids_suc n (has rest)))))
]

pub fewer_left : (n set id rest : ℕ) → ids_of n set ≡ id ∷ ids_of n rest
    → length (ids_of n rest) < length (ids_of n set)
fewer_left n set id rest first = omega (arith, ap (λ (xs : List ℕ). length xs) first)

-- ---- the iterator's sets, whose ids are below `most_ids`

pub most : (n : ℕ) → n < 128 → n < most_ids
unfolding most_ids
most n below = below

-- the set has no id from n on
all_below : (n k set : ℕ) → k + n ≡ most_ids → ((q : ℕ) → n ≤ q → Has set q → ⊥) → ids_of most_ids set ≡ ids_of n set
all_below n k set whole none = ap (λ (m : ℕ). ids_of m set) (sym whole) ∙ ids_beyond n k set none

rest_most : (n : ℕ) → n < 128 → 128 - n + n ≡ most_ids
unfolding most_ids
rest_most n below = omega arith

over_most : (n : ℕ) → 128 ≤ n → n - 128 + most_ids ≡ n
unfolding most_ids
over_most n above = omega arith

fits_most : (set q : ℕ) → set < 2 ^ 128 → most_ids ≤ q → Has set q → ⊥
unfolding most_ids
fits_most set q small above is = let below = below_from_small set 128 q small is in omega arith

-- `set % (1 << n)`
pub left_below : (set n : ℕ) → n < 128 → ids_of most_ids (set % (1 * 2 ^ n % 2 ^ 128)) ≡ ids_of n set
left_below set n below =
    ap (λ (m : ℕ). ids_of most_ids (set % m)) (one_shl n 128 below)
    ∙ (all_below n (128 - n) (set % 2 ^ n) (rest_most n below)
    (λ q above is. let it = from_low set n q is in omega (arith, it.0))
    ∙ ids_same n (set % 2 ^ n) set (λ q under. has_same (set % 2 ^ n) set q
    ((λ is. (from_low set n q is).1), (λ is. in_low set n q under ∙ is))))

-- all of the set
pub left_whole : (set n : ℕ) → 128 ≤ n → set < 2 ^ 128 → ids_of most_ids set ≡ ids_of n set
left_whole set n above small =
    sym (ids_beyond most_ids (n - 128) set (λ q over is. fits_most set q small over is))
    ∙ ap (λ (m : ℕ). ids_of m set) (over_most n above)

-- no id is left in the empty set
pub left_none : (set : ℕ) → set ≡ 0 → ids_of most_ids set ≡ []
left_none set empty = ap (ids_of most_ids) empty ∙ ids_none most_ids 0 (λ q below is. none_in_empty q is)

-- ---- loops over them

-- an id came
pub next_id : (before after : Ids) (r : Option ℕ) (id : ℕ) → r ≡ Some id → YieldsFirst ids_left before r after
    → ids_left before ≡ id ∷ ids_left after
next_id before after r id is gave = subst (λ (o : Option ℕ). YieldsFirst ids_left before o after) is gave

-- no id came
pub no_next_id : (before after : Ids) (r : Option ℕ) → r ≡ None → YieldsFirst ids_left before r after
    → ids_left before ≡ []
no_next_id before after r is gave = let (none, still) = subst (λ (o : Option ℕ). YieldsFirst ids_left before o after) is
    gave in none
