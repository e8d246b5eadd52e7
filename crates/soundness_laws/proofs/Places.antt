-- Lists of the places at which a test holds, counted.
use Rattle.std.proofs.Common.{◌≡◌, ◌≢◌, ℕ, zero, suc, ◌+◌, ◌<◌, ◌≤◌, ◌⊎◌, inl, inr, List, Bool, true, false, length}
use Rattle.std.proofs.Common.{arith, length-append, refl, sym, ◌∙◌, ap}
use Rattle.std.specs.Prelude.{option_to_list, if◌then◌else◌}
use Rattle.std.proofs.lemmas.Bool.{cases_eq}
use Rattle.crash_model.specs.Lists.{each_below, some_below, when}
use Rattle.soundness_laws.specs.Tables.{sum_below}

-- 1 where a test holds
abbrev pub one_if : Bool → ℕ
one_if b = if b then 1 else 0

pub length-some_below : {X : Type 0} (n : ℕ) (test : ℕ → Bool) (make : ℕ → X)
    → length (some_below n (λ k. when (test k) (make k))) ≡ sum_below n (λ k. one_if (test k))
unfolding some_below sum_below
length-some_below zero test make = refl
length-some_below (suc n) test make =
    length-append (some_below n (λ k. when (test k) (make k))) (option_to_list (when (test n) (make n)))
    ∙ ap (λ (x : ℕ). x + length (option_to_list (when (test n) (make n)))) (length-some_below n test make)
    ∙ ap (λ (x : ℕ). sum_below n (λ k. one_if (test k)) + x) (last (test n) (make n))
  where
    last : {X : Type 0} (b : Bool) (x : X) → length (option_to_list (when b x)) ≡ one_if b
    last true x = omega arith
    last false x = refl

pub length-each_below : {X : Type 0} (n : ℕ) (list : ℕ → List X)
    → length (each_below n list) ≡ sum_below n (λ k. length (list k))
unfolding each_below sum_below
length-each_below zero list = refl
length-each_below (suc n) list = length-append (each_below n list) (list n)
    ∙ ap (λ (x : ℕ). x + length (list n)) (length-each_below n list)

-- ---- sums

below_suc : (k n : ℕ) → k < suc n → (k < n) ⊎ (k ≡ n)
below_suc k n h = grind arith

pub sum_below-least : (n k : ℕ) (f : ℕ → ℕ) → k < n → f k ≤ sum_below n f
unfolding sum_below
sum_below-least zero k f below = absurd (omega arith)
sum_below-least (suc n) k f below = elim (below_suc k n below) [
  | inl less ↦ let before = sum_below-least n k f less in omega arith
  | inr same ↦ rw same (omega arith)
]

-- two terms of a sum
pub sum_below-two : (n j k : ℕ) (f : ℕ → ℕ) → j < k → k < n → f j + f k ≤ sum_below n f
unfolding sum_below
sum_below-two zero j k f less below = absurd (omega arith)
sum_below-two (suc n) j k f less below = elim (below_suc k n below) [
  | inl h ↦ let before = sum_below-two n j k f less h in omega arith
  | inr same ↦ let before = sum_below-least n j f (omega arith) in let at : f k ≡ f n = ap f same in omega arith
]

pub sum_below-zero : (n : ℕ) (f : ℕ → ℕ) → ((k : ℕ) → k < n → f k ≡ 0) → sum_below n f ≡ 0
unfolding sum_below
sum_below-zero zero f none = refl
sum_below-zero (suc n) f none = rw (sum_below-zero n f (λ k less. none k (omega arith)), none n (omega arith)) refl

-- a term that is not 0, where a sum is not
pub sum_below-some : (n : ℕ) (f : ℕ → ℕ) → sum_below n f ≢ 0 → (k : ℕ) × (k < n) × (f k ≢ 0)
unfolding sum_below
sum_below-some zero f some = absurd (some refl)
sum_below-some (suc n) f some = elim (cases_eq (f n) 0) [
  | inl none ↦
      let before = sum_below-some n f (λ z. some (rw (z, none) refl)) in
      (before.0, omega arith, before.2)
  | inr here ↦ (n, omega arith, here)
]

-- where one term at most is not 0, and none is above 1
pub sum_below-one : (n : ℕ) (f : ℕ → ℕ) → ((k : ℕ) → k < n → f k ≤ 1)
    → ((j k : ℕ) → j < k → k < n → f j ≢ 0 → f k ≢ 0 → ⊥) → sum_below n f ≤ 1
unfolding sum_below
sum_below-one zero f small apart = omega arith
sum_below-one (suc n) f small apart = elim (cases_eq (f n) 0) [
  | inl none ↦ let before = sum_below-one n f (λ k less. small k (omega arith))
      (λ j k less below. apart j k less (omega arith)) in omega arith
  | inr here ↦
      let before : sum_below n f ≡ 0 = sum_below-zero n f (λ k less.
      elim (cases_eq (f k) 0) [ inl z ↦ z | inr some ↦ absurd (apart k n less (omega arith) some here) ]) in
      let last = small n (omega arith) in
      omega arith
]

-- ---- pairs

-- two places of a table
pub sum_below-pairs : (m n : ℕ) (f : ℕ → ℕ → ℕ) (i s j r : ℕ) → i < m → j < m → s < n → r < n → f i s ≢ 0 → f j r ≢ 0
    → sum_below m (λ k. sum_below n (f k)) ≤ 1 → (i ≡ j) × (s ≡ r)
sum_below-pairs m n f i s j r in_i in_j in_s in_r here there few =
    let rows : ℕ → ℕ = λ k. sum_below n (f k) in
    let a = sum_below-least n s (f i) in_s in
    let b = sum_below-least n r (f j) in_r in
    elim (cases_eq i j) [
      | inl same ↦ (
        same,
        elim (cases_eq s r) [
          | inl e ↦ e
          | inr other ↦ absurd (
              let row = sum_below-least m i rows in_i in
              let at : f i r ≢ 0 = λ z. there (ap (λ (x : ℕ). f x r) (sym same) ∙ z) in
              elim (sides s r other) [
                | inl less ↦ let two = sum_below-two n s r (f i) less in_r in omega arith
                | inr more ↦ let two = sum_below-two n r s (f i) more in_s in omega arith
              ])
        ],
      )
      | inr other ↦ absurd (elim (sides i j other) [
        | inl less ↦ let two = sum_below-two m i j rows less in_j in omega arith
        | inr more ↦ let two = sum_below-two m j i rows more in_i in omega arith
      ])
    ]
  where
    sides : (a b : ℕ) → a ≢ b → (a < b) ⊎ (b < a)
    sides a b other = grind arith

-- one place at most
pub sum_below-one_pair : (m n : ℕ) (f : ℕ → ℕ → ℕ) → ((i s : ℕ) → f i s ≤ 1)
    → ((i s j r : ℕ) → i < m → j < m → s < n → r < n → f i s ≢ 0 → f j r ≢ 0 → (i ≡ j) × (s ≡ r))
    → sum_below m (λ k. sum_below n (f k)) ≤ 1
sum_below-one_pair m n f small same =
    sum_below-one m (λ k. sum_below n (f k))
    (λ i below. sum_below-one n (f i) (λ s _. small i s) (λ s r less in_r here there. let both =
    same i s i r below below (omega arith) in_r here there in omega arith))
    (λ i j less in_j here there.
    let a = sum_below-some n (f i) here in
    let b = sum_below-some n (f j) there in
    let both = same i a.0 j b.0 (omega arith) in_j a.1 b.1 a.2 b.2 in omega arith)
