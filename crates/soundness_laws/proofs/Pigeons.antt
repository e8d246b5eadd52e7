-- Numbers below n that differ are all numbers below n.
use Rattle.std.proofs.Common.{◌≡◌, ◌≢◌, ℕ, zero, suc, ◌-◌, ◌<◌, inl, inr, Option, Some, None, eqb, ltb, arith, refl}
use Rattle.std.specs.Prelude.{if◌then◌else◌}
use Rattle.std.proofs.lemmas.Bool.{cases_lt, lt-ltb, le-ltb, eqb-true, eqb-false}
use Rattle.crash_model.specs.Lists.{first_below}
use Rattle.soundness_laws.proofs.Searches.{first_below-is_none, first_below-is_some}

-- a number without the place of m
squeeze : ℕ → ℕ → ℕ
squeeze m x = if ltb m x then x - 1 else x

squeeze-below : (n m x : ℕ) → m < suc n → x < suc n → x ≢ m → squeeze m x < n
unfolding squeeze
squeeze-below n m x in_m in_x other = elim (cases_lt m x) [
  | inl above ↦ rw (lt-ltb m x above) (omega arith)
  | inr below ↦ rw (le-ltb m x below) (omega arith)
]

squeeze-apart : (m x y : ℕ) → x ≢ m → y ≢ m → x ≢ y → squeeze m x ≢ squeeze m y
unfolding squeeze
squeeze-apart m x y not_x not_y apart = elim (cases_lt m x) [
  | inl above ↦ elim (cases_lt m y) [
    | inl high ↦ rw (lt-ltb m x above, lt-ltb m y high) (λ same. apart (omega arith))
    | inr low ↦ rw (lt-ltb m x above, le-ltb m y low) (λ same. not_y (omega arith))
  ]
  | inr below ↦ elim (cases_lt m y) [
    | inl high ↦ rw (le-ltb m x below, lt-ltb m y high) (λ same. not_x (omega arith))
    | inr low ↦ rw (le-ltb m x below, le-ltb m y low) apart
  ]
]

pub each-taken : (n : ℕ) (f : ℕ → ℕ) → ((k : ℕ) → k < n → f k < n) → ((j k : ℕ) → j < k → k < n → f j ≢ f k) → (m : ℕ)
    → m < n → (k : ℕ) × (k < n) × (f k ≡ m)
each-taken zero f within apart m below = absurd (omega arith)
each-taken (suc n) f within apart m below = go (each-taken n (λ k. squeeze m (f k)))
    (first_below (suc n) (λ k. eqb (f k) m)) refl
  where
    go : (((k : ℕ) → k < n → squeeze m (f k) < n) → ((j k : ℕ) → j < k → k < n → squeeze m (f j) ≢ squeeze m (f k))
        → (q : ℕ) → q < n → (k : ℕ) × (k < n) × (squeeze m (f k) ≡ q))
        → (o : Option ℕ) → first_below (suc n) (λ k. eqb (f k) m) ≡ o → (k : ℕ) × (k < suc n) × (f k ≡ m)
    go rec (Some k) e = let found = first_below-is_some (suc n) (λ k. eqb (f k) m) k e in
        (k, found.below, eqb-true (f k) m found.holds)
    go rec None e =
        let avoids : (k : ℕ) → k < suc n → f k ≢ m = λ k less.
        eqb-false (f k) m (first_below-is_none (suc n) (λ k. eqb (f k) m) e k less) in
        let last : squeeze m (f n) < n = squeeze-below n m (f n) below (within n (omega arith))
        (avoids n (omega arith)) in
        let taken = rec (λ k less. squeeze-below n m (f k) below (within k (omega arith)) (avoids k (omega arith)))
        (λ j k less small. squeeze-apart m (f j) (f k) (avoids j (omega arith)) (avoids k (omega arith))
        (apart j k less (omega arith)))
        (squeeze m (f n)) last in
        absurd (squeeze-apart m (f taken.0) (f n) (avoids taken.0 (omega arith)) (avoids n (omega arith))
        (apart taken.0 n taken.1 (omega arith)) taken.2)
