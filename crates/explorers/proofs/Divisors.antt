-- Divisors up to the root.
use Rattle.std.proofs.Common.{◌≡◌, ◌≢◌, ℕ, ◌<◌, ◌≤◌, ◌*◌, ◌/◌, ◌%◌, ◌⊎◌, arith, subst, inl, inr}
use Rattle.std.proofs.Math.Nat.{div-add-mod', mul-le-mul_left, mul-le-mul_right, mul-mod_right}
use Rattle.std.proofs.lemmas.Nat.{le-div}

below_or_not : (a b : ℕ) → (a < b) ⊎ (b ≤ a)
below_or_not a b = grind arith

-- of two numbers whose product is n, one is no more than its root
pub no_divisor : (n root : ℕ) → n / root < root → ((d : ℕ) → 1 < d → d < root → n % d ≢ 0) → (d : ℕ) → 1 < d → d < n
    → n % d ≢ 0
no_divisor n root high none d above below divides = elim (below_or_not d root) [
  | inl low ↦ none d above low divides
  | inr up ↦
      let whole : n / d * d ≡ n = omega (arith, div-add-mod' n d, divides) in
      let within : n / d * root ≤ n = omega (arith, whole, mul-le-mul_left (n / d) up) in
      let small : n / d < root = omega (arith, high, le-div (n / d) n root (omega (arith, high)) within) in
      elim (below_or_not 1 (n / d)) [
        | inl some ↦ none (n / d) some small (subst (λ (m : ℕ). m % (n / d) ≡ 0) whole (mul-mod_right (n / d) d))
        | inr few ↦ absurd (omega (arith, whole, below, mul-le-mul_right d few))
      ]
]
