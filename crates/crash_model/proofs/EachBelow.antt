-- Lists made number by number: what a number more adds, when they are empty, and how long they are; and the lowest
-- number at which a test holds.
use Rattle.std.proofs.Common.{◌≡◌, ℕ, zero, suc, ◌+◌, ◌<◌, ◌≤◌, ◌⊎◌, List, [], length, ◌++◌, Bool, true, false, Option}
use Rattle.std.proofs.Common.{Some, None, add-one, arith, refl, subst, inl, inr, length-append}
use Rattle.std.specs.Prelude.{option_to_list}
use Rattle.std.specs.Option.{option_or}
use Rattle.crash_model.specs.Lists.{each_below, some_below, first_below, when}

pub each_below-zero : {X : Type 0} (list : ℕ → List X) → each_below 0 list ≡ []
unfolding each_below
each_below-zero list = refl

pub each_below-step : {X : Type 0} (n : ℕ) (list : ℕ → List X) → each_below (n + 1) list ≡ each_below n list ++ list n
unfolding each_below
each_below-step n list = rw add-one refl

pub some_below-zero : {X : Type 0} (at : ℕ → Option X) → some_below 0 at ≡ []
unfolding some_below
some_below-zero at = refl

pub some_below-step : {X : Type 0} (n : ℕ) (at : ℕ → Option X)
    → some_below (n + 1) at ≡ some_below n at ++ option_to_list (at n)
unfolding some_below
some_below-step n at = rw add-one refl

pub first_below-zero : (test : ℕ → Bool) → first_below 0 test ≡ None
unfolding first_below
first_below-zero test = refl

pub first_below-step : (n : ℕ) (test : ℕ → Bool) → first_below (n + 1) test ≡ option_or (first_below n test)
    (when (test n) n)
unfolding first_below
first_below-step n test = rw add-one refl

pub ruleset each_below_steps = (
  first_below-zero,
  first_below-step,
  each_below-zero,
  each_below-step,
  some_below-zero,
  some_below-step,
)

pub first_below-none : (n : ℕ) (test : ℕ → Bool) → ((k : ℕ) → k < n → test k ≡ false) → first_below n test ≡ None
unfolding first_below
first_below-none zero test none = refl
first_below-none (suc n) test none = rw (
  first_below-none n test (λ k below. none k (omega arith)),
  none n (omega arith),
) refl

-- what is found below k + 1 is found below every greater number
pub first_below-found : (n k : ℕ) (test : ℕ → Bool) → k < n → first_below k test ≡ None → test k ≡ true
    → first_below n test ≡ Some k
unfolding first_below
first_below-found zero k test below none holds = absurd (omega arith)
first_below-found (suc n) k test below none holds =
    elim (lt_or_same k n below) [
      | inl less ↦ rw (first_below-found n k test less none holds) refl
      | inr same ↦ subst (λ (m : ℕ). option_or (first_below m test) (when (test m) m) ≡ Some k) same
          (rw (none, holds) refl)
    ]
  where
    lt_or_same : (k n : ℕ) → k < suc n → (k < n) ⊎ (k ≡ n)
    lt_or_same k n h = grind arith

-- what is found is the lowest
pub first_below-lowest : (n k : ℕ) (test : ℕ → Bool) → k < n → ((j : ℕ) → j < k → test j ≡ false) → test k ≡ true
    → first_below n test ≡ Some k
first_below-lowest n k test below none holds = first_below-found n k test below (first_below-none k test none) holds

pub each_below-none : {X : Type 0} (n : ℕ) (list : ℕ → List X) → ((k : ℕ) → k < n → list k ≡ [])
    → each_below n list ≡ []
unfolding each_below
each_below-none zero list none = refl
each_below-none (suc n) list none = rw (each_below-none n list (λ k below. none k (omega arith)), none n (omega arith))
    refl

pub some_below-none : {X : Type 0} (n : ℕ) (at : ℕ → Option X) → ((k : ℕ) → k < n → at k ≡ None) → some_below n at ≡ []
unfolding some_below
some_below-none zero at none = refl
some_below-none (suc n) at none = rw (some_below-none n at (λ k below. none k (omega arith)), none n (omega arith)) refl

pub length-option : {X : Type 0} (o : Option X) → length (option_to_list o) ≤ 1
length-option None = omega arith
length-option (Some x) = omega arith

-- no more elements than numbers
pub length-some_below : {X : Type 0} (n : ℕ) (at : ℕ → Option X) → length (some_below n at) ≤ n
unfolding some_below
length-some_below zero at = omega arith
length-some_below (suc n) at = omega (
  arith,
  length-append (some_below n at) (option_to_list (at n)),
  length-some_below n at,
  length-option (at n),
)
