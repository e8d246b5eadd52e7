-- What mapped, filtered and joined lists contain, and in which order.
use Rattle.std.proofs.Common.{◌≡◌, ℕ, zero, suc, ◌<◌, List, [], ◌∷◌, ◌++◌, map, Bool, true, false, cond}
use Rattle.std.proofs.Common.{arith, refl, sym, subst, ap, ◌∙◌, inl, inr, get_or}
use Rattle.std.specs.List.{All, AllPairs, Contains, filter, flat_map, range_with_len}
use Rattle.std.proofs.lemmas.List.Elements.{All-nil, All-cons, All-append, All-map, Contains-get_or}
use Rattle.std.proofs.lemmas.List.Elements.{Contains-append_left, Contains-append_right, Contains-append_cases}
use Rattle.std.proofs.lemmas.List.FromFn.{length-range_with_len, get_or-range_with_len}
use Rattle.std.proofs.lemmas.List.Kept.{AllPairs-cons}
use Rattle.patch_sets.proofs.Lists.{front_or_rest, in_front, in_rest, in_none}

pub all_from : {X : Type 0} (P : X → Type 0) (xs : List X) → ((x : X) → Contains xs x → P x) → All P xs
all_from P xs each k d within = each (get_or xs k d) (Contains-get_or xs k d within)

-- ---- pairs

pub no_pairs : {X : Type 0} (R : X → X → Type 0) → AllPairs R []
no_pairs R i j d less within = absurd (omega arith)

pub front_all : {X : Type 0} (R : X → X → Type 0) (x : X) (xs : List X) → AllPairs R (x ∷ xs) → All (R x) xs
front_all R x xs up k d within = up zero (suc k) d (omega arith) (omega arith)

pub rest_pairs : {X : Type 0} (R : X → X → Type 0) (x : X) (xs : List X) → AllPairs R (x ∷ xs) → AllPairs R xs
rest_pairs R x xs up i j d less within = up (suc i) (suc j) d (omega arith) (omega arith)

pub pairs_join : {X : Type 0} (R : X → X → Type 0) (xs ys : List X) → AllPairs R xs → AllPairs R ys
    → ((x y : X) → Contains xs x → Contains ys y → R x y) → AllPairs R (xs ++ ys)
pairs_join R [] ys up rise across = rise
pairs_join R (x ∷ xs) ys up rise across = AllPairs-cons R x (xs ++ ys)
    (All-append (R x) xs ys (front_all R x xs up) (all_from (R x) ys (λ y is. across x y (in_front x xs) is)))
    (pairs_join R xs ys (rest_pairs R x xs up) rise (λ a b isa isb. across a b (in_rest x xs a isa) isb))

pub pairs_map : {X Y : Type 0} (R : Y → Y → Type 0) (f : X → Y) (xs : List X) → AllPairs (λ a b. R (f a) (f b)) xs
    → AllPairs R (map f xs)
pairs_map R f [] up = no_pairs R
pairs_map R f (x ∷ xs) up = AllPairs-cons R (f x) (map f xs)
    (All-map (R (f x)) f xs (front_all (λ a b. R (f a) (f b)) x xs up))
    (pairs_map R f xs (rest_pairs (λ a b. R (f a) (f b)) x xs up))

all_unmap : {X Y : Type 0} (P : Y → Type 0) (f : X → Y) (xs : List X) → All P (map f xs) → All (λ x. P (f x)) xs
all_unmap P f [] each = All-nil (λ x. P (f x))
all_unmap P f (x ∷ xs) each = All-cons (λ x. P (f x)) x xs (each zero (f x) (omega arith))
    (all_unmap P f xs (λ k d within. each (suc k) d (omega arith)))

pub pairs_unmap : {X Y : Type 0} (R : Y → Y → Type 0) (f : X → Y) (xs : List X) → AllPairs R (map f xs)
    → AllPairs (λ a b. R (f a) (f b)) xs
pairs_unmap R f [] up = no_pairs (λ a b. R (f a) (f b))
pairs_unmap R f (x ∷ xs) up = AllPairs-cons (λ a b. R (f a) (f b)) x xs
    (all_unmap (R (f x)) f xs (front_all R (f x) (map f xs) up))
    (pairs_unmap R f xs (rest_pairs R (f x) (map f xs) up))

-- ---- elements

pub in_map : {X Y : Type 0} (f : X → Y) (xs : List X) (x : X) → Contains xs x → Contains (map f xs) (f x)
in_map f [] x is = absurd (in_none x is)
in_map f (y ∷ xs) x is = elim (front_or_rest y xs x is) [
  | inl e ↦ subst (λ z. Contains (map f (y ∷ xs)) (f z)) e (in_front (f y) (map f xs))
  | inr later ↦ in_rest (f y) (map f xs) (f x) (in_map f xs x later)
]

pub from_map : {X Y : Type 0} (f : X → Y) (xs : List X) (y : Y) → Contains (map f xs) y
    → (x : X) × Contains xs x × (f x ≡ y)
from_map f [] y is = absurd (in_none y is)
from_map f (x ∷ xs) y is = elim (front_or_rest (f x) (map f xs) y is) [
  | inl e ↦ (x, in_front x xs, e)
  | inr later ↦ let it = from_map f xs y later in (it.0, in_rest x xs it.0 it.1, it.2)
]

pub from_filter : {X : Type 0} (test : X → Bool) (xs : List X) (x : X) → Contains (filter test xs) x
    → Contains xs x × (test x ≡ true)
from_filter test [] x is = absurd (in_none x is)
from_filter test (y ∷ xs) x is = by_test (test y) refl (from_filter test xs x) is
  where
    by_test : (b : Bool) → test y ≡ b → (Contains (filter test xs) x → Contains xs x × (test x ≡ true))
        → Contains (cond b (y ∷ filter test xs) (filter test xs)) x → Contains (y ∷ xs) x × (test x ≡ true)
    by_test false e rest is = let it = rest is in (in_rest y xs x it.0, it.1)
    by_test true e rest is = elim (front_or_rest y (filter test xs) x is) [
      | inl same ↦ (subst (Contains (y ∷ xs)) same (in_front y xs), ap test (sym same) ∙ e)
      | inr later ↦ let it = rest later in (in_rest y xs x it.0, it.1)
    ]

pub in_filter : {X : Type 0} (test : X → Bool) (xs : List X) (x : X) → Contains xs x → test x ≡ true
    → Contains (filter test xs) x
in_filter test [] x is passes = absurd (in_none x is)
in_filter test (y ∷ xs) x is passes = by_test (test y) refl (λ later. in_filter test xs x later passes)
  where
    by_test : (b : Bool) → test y ≡ b → (Contains xs x → Contains (filter test xs) x)
        → Contains (cond b (y ∷ filter test xs) (filter test xs)) x
    by_test false e rest = elim (front_or_rest y xs x is) [
      | inl same ↦ absurd (let both : true ≡ false = sym passes ∙ (ap test (sym same) ∙ e) in cc)
      | inr later ↦ rest later
    ]
    by_test true e rest = elim (front_or_rest y xs x is) [
      | inl same ↦ subst (Contains (y ∷ filter test xs)) same (in_front y (filter test xs))
      | inr later ↦ in_rest y (filter test xs) x (rest later)
    ]

pub in_flat : {X Y : Type 0} (f : X → List Y) (xs : List X) (x : X) (y : Y) → Contains xs x → Contains (f x) y
    → Contains (flat_map f xs) y
in_flat f [] x y is there = absurd (in_none x is)
in_flat f (z ∷ xs) x y is there = elim (front_or_rest z xs x is) [
  | inl e ↦ Contains-append_left (f z) (flat_map f xs) y (subst (λ w. Contains (f w) y) (sym e) there)
  | inr later ↦ Contains-append_right (f z) (flat_map f xs) y (in_flat f xs x y later there)
]

pub from_flat : {X Y : Type 0} (f : X → List Y) (xs : List X) (y : Y) → Contains (flat_map f xs) y
    → (x : X) × Contains xs x × Contains (f x) y
from_flat f [] y is = absurd (in_none y is)
from_flat f (x ∷ xs) y is = elim (Contains-append_cases (f x) (flat_map f xs) y is) [
  | inl here ↦ (x, in_front x xs, here)
  | inr later ↦ let it = from_flat f xs y later in (it.0, in_rest x xs it.0 it.1, it.2)
]

-- ---- numbers below another

pub in_range : (n i : ℕ) → i < n → Contains (range_with_len 0 n) i
in_range n i low = (i, omega (arith, length-range_with_len 0 n), get_or-range_with_len 0 n i i low ∙ omega arith)

pub from_range : (n i : ℕ) → Contains (range_with_len 0 n) i → i < n
from_range n i (k, within, is) =
    let low : k < n = omega (arith, length-range_with_len 0 n) in
    omega (arith, get_or-range_with_len 0 n k i low)

pub range_ascends : (n : ℕ) → AllPairs (λ a b. a < b) (range_with_len 0 n)
range_ascends n i j d less within =
    let low : j < n = omega (arith, length-range_with_len 0 n) in
    let first : i < n = omega arith in
    omega (arith, get_or-range_with_len 0 n i d first, get_or-range_with_len 0 n j d low)
