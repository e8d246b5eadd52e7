-- Sums and counts after a change at one place.
use Rattle.std.proofs.Common.{◌≡◌, ◌≢◌, ℕ, zero, suc, ◌+◌, ◌<◌, arith, refl, sym, ◌∙◌, ap, inl, inr, eqb}
use Rattle.std.proofs.lemmas.Bool.{cases_eq, eq-eqb, ne_eqb, cond-true, cond-false}
use Rattle.soundness_laws.specs.Tables.{Place, sum_below, count_to, leads, with_place, with_value}

pub sum_below-same : (n : ℕ) (f g : ℕ → ℕ) → ((j : ℕ) → j < n → g j ≡ f j) → sum_below n g ≡ sum_below n f
unfolding sum_below
sum_below-same zero f g same = refl
sum_below-same (suc n) f g same = rw (sum_below-same n f g (λ j below. same j (omega arith)), same n (omega arith)) refl

pub sum_below-point : (n k : ℕ) (f g : ℕ → ℕ) → k < n → ((j : ℕ) → j ≢ k → g j ≡ f j)
    → sum_below n g + f k ≡ sum_below n f + g k
unfolding sum_below
sum_below-point zero k f g below same = absurd (omega arith)
sum_below-point (suc n) k f g below same = elim (cases_eq k n) [
  | inl here ↦
      let rest : sum_below n g ≡ sum_below n f = sum_below-same n f g (λ j less. same j (λ e. omega arith)) in
      rw (here, rest) (omega arith)
  | inr there ↦
      let less : k < n = omega arith in
      let rest : sum_below n g + f k ≡ sum_below n f + g k = sum_below-point n k f g less same in
      let last : g n ≡ f n = same n (λ e. there (sym e)) in
      omega arith
]

pub with_value-same : {X : Type 0} (f : ℕ → X) (i : ℕ) (v : X) → with_value f i v i ≡ v
with_value-same f i v = cond-true (eqb i i) v (f i) (eq-eqb i i refl)

pub with_value-other : {X : Type 0} (f : ℕ → X) (i : ℕ) (v : X) (j : ℕ) → j ≢ i → with_value f i v j ≡ f j
with_value-other f i v j other = cond-false (eqb j i) v (f j) (ne_eqb j i other)

pub changed_twice-same : {X : Type 0} (f : ℕ → ℕ → X) (i k : ℕ) (v : X) → with_value f i (with_value (f i) k v) i k ≡ v
changed_twice-same {X = X} f i k v = ap (λ (row : ℕ → X). row k) (with_value-same f i (with_value (f i) k v))
    ∙ with_value-same (f i) k v

-- the row of the change, at another place
pub changed_twice-row : {X : Type 0} (f : ℕ → ℕ → X) (i k : ℕ) (v : X) (m : ℕ) → m ≢ k
    → with_value f i (with_value (f i) k v) i m ≡ f i m
changed_twice-row {X = X} f i k v m other = ap (λ (row : ℕ → X). row m) (with_value-same f i (with_value (f i) k v))
    ∙ with_value-other (f i) k v m other

pub changed_twice-other : {X : Type 0} (f : ℕ → ℕ → X) (i k : ℕ) (v : X) (j m : ℕ) → (j ≡ i → m ≡ k → ⊥)
    → with_value f i (with_value (f i) k v) j m ≡ f j m
changed_twice-other {X = X} f i k v j m other = elim (cases_eq j i) [
  | inl here ↦ rw here (changed_twice-row f i k v m (λ e. other here e))
  | inr there ↦ ap (λ (row : ℕ → X). row m) (with_value-other f i (with_value (f i) k v) j there)
]

-- a change of one entry changes the count of what it led to and of what it leads to
pub count_to-with_value : (entry : ℕ → ℕ → Place) (dir k : ℕ) (place : Place) (i : ℕ) → dir < 16 → k < 10
    → count_to (with_place entry dir k place) i + leads (entry dir k) i ≡ count_to entry i + leads place i
count_to-with_value entry dir k place i in_dir in_place =
    let new = with_place entry dir k place in
    let row = λ (u : ℕ → ℕ → Place) (d : ℕ). sum_below 10 (λ m. leads (u d m) i) in
    let outer : count_to new i + row entry dir ≡ count_to entry i + row new dir =
    sum_below-point 16 dir (row entry) (row new) in_dir (λ j other. rw (ne_row j other) refl) in
    let inner : row new dir + leads (entry dir k) i ≡ row entry dir + leads (new dir k) i =
    sum_below-point 10 k (λ m. leads (entry dir m) i) (λ m. leads (new dir m) i) in_place
    (λ m other. ap (λ (p : Place). leads p i) (changed_twice-row entry dir k place m other)) in
    let at : new dir k ≡ place = changed_twice-same entry dir k place in
    let at_leads : leads (new dir k) i ≡ leads place i = ap (λ (p : Place). leads p i) at in
    omega arith
  where
    ne_row : (j : ℕ) → j ≢ dir → with_value entry dir (with_value (entry dir) k place) j ≡ entry j
    ne_row j other = with_value-other entry dir (with_value (entry dir) k place) j other
