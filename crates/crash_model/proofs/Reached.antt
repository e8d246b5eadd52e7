-- The inodes that are reached are the least set with inode 0, where it is a directory, and with each live inode to
-- which an entry of one of its directories leads.
use Rattle.std.proofs.Common.{◌≡◌, ℕ, zero, suc, ◌+◌, ◌-◌, ◌<◌, ◌≤◌, ◌⊎◌, inl, inr, List, [], ◌∷◌, length, Bool, true}
use Rattle.std.proofs.Common.{false, cond, ◌&&◌, ◌||◌, ◌==◌, arith, refl, sym, subst, ap, length-append}
use Rattle.std.specs.List.{list_any, Contains}
use Rattle.std.proofs.lemmas.Bool.{false≢true, cases_lt, and_parts, or_cases}
use Rattle.std.proofs.lemmas.Cmp.{nat_eq_equiv}
use Rattle.std.proofs.lemmas.Map.Views.{list_any-from_Contains, Contains-from_any}
use Rattle.patch_sets.specs.Sets.{ids_below}
use Rattle.patch_sets.proofs.Ids.{eq_from_true, true_from_eq, from_ids, to_ids, ids_suc}
use Rattle.crash_model.specs.Disk.{Disk}
use Rattle.crash_model.specs.Layout.{kind_of, is_live}
use Rattle.crash_model.specs.Strict.{is_in, has_entry_to, reach_in, is_reached}

-- ---- tests

or_left : (a b : Bool) → a ≡ true → (a || b) ≡ true
or_left a b e = rw e refl

or_right : (a b : Bool) → b ≡ true → (a || b) ≡ true
or_right true b e = refl
or_right false b e = e

and_both : (a b : Bool) → a ≡ true → b ≡ true → (a && b) ≡ true
and_both a b e f = rw (e, f) refl

-- ---- lists of numbers

pub in_from : (xs : List ℕ) (x : ℕ) → is_in xs x ≡ true → Contains xs x
in_from xs x is = Contains-from_any eq_from_true x xs is

pub in_to : (xs : List ℕ) (x : ℕ) → Contains xs x → is_in xs x ≡ true
in_to xs x is = list_any-from_Contains nat_eq_equiv x xs is

-- a test holds of an element
any_from : (p : ℕ → Bool) (xs : List ℕ) → list_any p xs ≡ true → (x : ℕ) × (is_in xs x ≡ true) × (p x ≡ true)
any_from p [] e = absurd (false≢true e)
any_from p (y ∷ ys) e = elim (or_cases (p y) (list_any p ys) e) [
  | inl here ↦ (y, or_left (y == y) (is_in ys y) (true_from_eq y y refl), here)
  | inr later ↦ let r = any_from p ys later in (r.0, or_right (r.0 == y) (is_in ys r.0) r.1, r.2)
]

any_to : (p : ℕ → Bool) (xs : List ℕ) (x : ℕ) → is_in xs x ≡ true → p x ≡ true → list_any p xs ≡ true
any_to p [] x e h = absurd (false≢true e)
any_to p (y ∷ ys) x e h = elim (or_cases (x == y) (is_in ys x) e) [
  | inl here ↦ or_left (p y) (list_any p ys) (subst (λ (z : ℕ). p z ≡ true) (eq_from_true x y here) h)
  | inr later ↦ or_right (p y) (list_any p ys) (any_to p ys x later h)
]

-- ---- tests of the numbers below m, of which one holds wherever another does

holds_still : (p q : ℕ → Bool) (m : ℕ) → ((i : ℕ) → i < suc m → p i ≡ true → q i ≡ true) → (i : ℕ) → i < m → p i ≡ true
    → q i ≡ true
holds_still p q m more i below = more i (omega arith)

one_more : (b c : Bool) (n : ℕ) → (b ≡ true → c ≡ true) → length (cond b (n ∷ []) []) ≤ length (cond c (n ∷ []) [])
one_more true c n more = rw (more refl) (omega arith)
one_more false c n more = omega arith

ids_grow : (p q : ℕ → Bool) (m : ℕ) → ((i : ℕ) → i < m → p i ≡ true → q i ≡ true)
    → length (ids_below m p) ≤ length (ids_below m q)
ids_grow p q zero more = omega arith
ids_grow p q (suc m) more = rw (ids_suc m p, ids_suc m q) (omega (
  arith,
  length-append (ids_below m p) (cond (p m) (m ∷ []) []),
  length-append (ids_below m q) (cond (q m) (m ∷ []) []),
  ids_grow p q m (holds_still p q m more),
  one_more (p m) (q m) m (more m (omega arith)),
))

-- it holds nowhere else where as many numbers pass
same_here : (b c : Bool) (m : ℕ) → length (cond c (m ∷ []) []) ≤ length (cond b (m ∷ []) []) → c ≡ true → b ≡ true
same_here true c m few e = refl
same_here false true m few e = absurd (omega (arith, few))
same_here false false m few e = e

below_or_last : (i m : ℕ) → i < suc m → (i < m) ⊎ (i ≡ m)
below_or_last i m h = grind arith

ids_same : (p q : ℕ → Bool) (m : ℕ) → ((i : ℕ) → i < m → p i ≡ true → q i ≡ true)
    → length (ids_below m q) ≤ length (ids_below m p)
    → (i : ℕ) → i < m → q i ≡ true → p i ≡ true
ids_same p q zero more few i below e = absurd (omega arith)
ids_same p q (suc m) more few i below e =
    let old = holds_still p q m more in
    let all : length (ids_below m q) + length (cond (q m) (m ∷ []) []) ≤ length (ids_below m p)
    + length (cond (p m) (m ∷ []) []) =
    omega (
      arith,
      few,
      ap length (ids_suc m p),
      ap length (ids_suc m q),
      length-append (ids_below m p) (cond (p m) (m ∷ []) []),
      length-append (ids_below m q) (cond (q m) (m ∷ []) []),
    ) in
    elim (below_or_last i m below) [
      | inl less ↦ ids_same p q m old (omega (arith, all, one_more (p m) (q m) m (more m (omega arith)))) i less e
      | inr same ↦ subst (λ (j : ℕ). p j ≡ true) (sym same)
          (same_here (p m) (q m) m (omega (arith, all, ids_grow p q m old)) (subst (λ (j : ℕ). q j ≡ true) same e))
    ]

at_most : (p : ℕ → Bool) (m : ℕ) → length (ids_below m p) ≤ m
at_most p zero = omega arith
at_most p (suc m) = rw (ids_suc m p) (omega (
  arith,
  length-append (ids_below m p) (cond (p m) (m ∷ []) []),
  at_most p m,
  one_more (p m) true m (λ e. refl),
))

zero_more : (n : ℕ) → n ≡ zero + n
zero_more n = omega arith

one_more_in : (m n : ℕ) → suc (m + n) ≡ suc m + n
one_more_in m n = omega arith

-- ---- one step more

module _ (d : Disk) where
  -- which inodes are reached in at most n steps
  abbrev passes : ℕ → ℕ → Bool
  passes zero inode = inode == 0 && kind_of d 0 == 2
  passes (suc n) inode = is_in (reach_in d n) inode || (is_live d inode
      && list_any (λ dir. has_entry_to d dir inode) (reach_in d n))

  reached-ids : (n : ℕ) → reach_in d n ≡ ids_below 16 (passes n)
  unfolding reach_in
  reached-ids zero = refl
  reached-ids (suc n) = refl

  from_reached : (n i : ℕ) → is_in (reach_in d n) i ≡ true → (i < 16) × (passes n i ≡ true)
  from_reached n i is = from_ids 16 (passes n) i (subst (λ (xs : List ℕ). Contains xs i) (reached-ids n)
      (in_from (reach_in d n) i is))

  to_reached : (n i : ℕ) → i < 16 → passes n i ≡ true → is_in (reach_in d n) i ≡ true
  to_reached n i below is = in_to (reach_in d n) i (subst (λ (xs : List ℕ). Contains xs i) (sym (reached-ids n))
      (to_ids 16 (passes n) i below is))

  -- what is reached stays so
  kept_more : (n i : ℕ) → is_in (reach_in d n) i ≡ true → is_in (reach_in d (suc n)) i ≡ true
  kept_more n i is = to_reached (suc n) i (from_reached n i is).0 (or_left (is_in (reach_in d n) i) _ is)

  kept_on : (n m i : ℕ) → is_in (reach_in d n) i ≡ true → is_in (reach_in d (m + n)) i ≡ true
  kept_on n zero i is = subst (λ (k : ℕ). is_in (reach_in d k) i ≡ true) (zero_more n) is
  kept_on n (suc m) i is = subst (λ (k : ℕ). is_in (reach_in d k) i ≡ true) (one_more_in m n)
      (kept_more (m + n) i (kept_on n m i is))

  live_below : (i : ℕ) → is_live d i ≡ true → i < 16
  live_below i live = grind (arith, live)

  -- an entry leads one step further
  step_in : (n dir i : ℕ) → is_in (reach_in d n) dir ≡ true → has_entry_to d dir i ≡ true → is_live d i ≡ true
      → is_in (reach_in d (suc n)) i ≡ true
  step_in n dir i is names live = to_reached (suc n) i (live_below i live) (or_right (is_in (reach_in d n) i) _
      (and_both (is_live d i) _ live (any_to (λ (x : ℕ). has_entry_to d x i) (reach_in d n) dir is names)))

  -- ---- the last step at which something is added

  abbrev IsStill : ℕ → Type 0
  IsStill n = (i : ℕ) → is_in (reach_in d (suc n)) i ≡ true → is_in (reach_in d n) i ≡ true

  still_more : (n : ℕ) → IsStill n → IsStill (suc n)
  still_more n still i is = elim (or_cases (is_in (reach_in d (suc n)) i) _ (from_reached (suc (suc n)) i is).1) [
    | inl before ↦ before
    | inr led ↦
        let parts = and_parts (is_live d i) _ led in
        let found = any_from (λ (dir : ℕ). has_entry_to d dir i) (reach_in d (suc n)) parts.1 in
        step_in n found.0 i (still found.0 found.1) found.2 parts.0
  ]

  still_on : (n m : ℕ) → IsStill n → IsStill (m + n)
  still_on n zero still = subst IsStill (zero_more n) still
  still_on n (suc m) still = subst IsStill (one_more_in m n) (still_more (m + n) (still_on n m still))

  -- this many are reached, unless an earlier step adds nothing
  counted : (n : ℕ) → ((j : ℕ) × (j < n) × IsStill j) ⊎ (n ≤ length (reach_in d n))
  counted zero = inr (omega arith)
  counted (suc n) = elim (counted n) [
    | inl found ↦ inl (found.0, omega (arith, found.1), found.2)
    | inr many ↦ elim (cases_lt (length (reach_in d n)) (length (reach_in d (suc n)))) [
      | inl more ↦ inr (omega (arith, many, more))
      | inr few ↦ inl (n, omega arith, still_from n few)
    ]
  ]
    where
      still_from : (n : ℕ) → length (reach_in d (suc n)) ≤ length (reach_in d n) → IsStill n
      still_from n few i is =
          let it = from_reached (suc n) i is in
          to_reached n i it.0 (ids_same (passes n) (passes (suc n)) 16
          (λ j below e. (from_reached (suc n) j (kept_more n j (to_reached n j below e))).1)
          (omega (arith, few, ap length (reached-ids n), ap length (reached-ids (suc n)))) i it.0 it.1)

  still_at_last : IsStill 16
  still_at_last = elim (counted 17) [
    | inl found ↦ subst IsStill (omega (arith, found.1)) (still_on found.0 (16 - found.0) found.2)
    | inr many ↦ absurd (omega (arith, many, ap length (reached-ids 17), at_most (passes 17) 16))
  ]

  -- ---- the least set

  pub reached-root : kind_of d 0 ≡ 2 → is_reached d 0 ≡ true
  unfolding is_reached
  reached-root is = kept_on 0 16 0 (to_reached 0 0 (omega arith)
      (and_both (0 == 0) (kind_of d 0 == 2) refl (true_from_eq (kind_of d 0) 2 is)))

  pub reached-step : (dir i : ℕ) → is_reached d dir ≡ true → has_entry_to d dir i ≡ true → is_live d i ≡ true
      → is_reached d i ≡ true
  unfolding is_reached
  reached-step dir i is names live = still_at_last i (step_in 16 dir i is names live)

  module _ (P : ℕ → Type 0) (root : kind_of d 0 ≡ 2 → P 0)
      (step : (dir i : ℕ) → P dir → has_entry_to d dir i ≡ true → is_live d i ≡ true → P i) where
    least_in : (n i : ℕ) → is_in (reach_in d n) i ≡ true → P i
    least_in zero i is =
        let parts = and_parts (i == 0) (kind_of d 0 == 2) (from_reached 0 i is).1 in
        subst P (sym (eq_from_true i 0 parts.0)) (root (eq_from_true (kind_of d 0) 2 parts.1))
    least_in (suc n) i is = elim (or_cases (is_in (reach_in d n) i) _ (from_reached (suc n) i is).1) [
      | inl before ↦ least_in n i before
      | inr led ↦
          let parts = and_parts (is_live d i) _ led in
          let found = any_from (λ (dir : ℕ). has_entry_to d dir i) (reach_in d n) parts.1 in
          step found.0 i (least_in n found.0 found.1) found.2 parts.0
    ]

    pub reached-least : (i : ℕ) → is_reached d i ≡ true → P i
    unfolding is_reached
    reached-least i is = least_in 16 i is
