-- What holds of each value of a set of bytes.
use Rattle.std.proofs.Common.{ℕ, ◌+◌, ◌-◌, ◌<◌, ◌≤◌, ◌^◌, inl, inr, arith, sym, subst}
use Rattle.std.proofs.lemmas.Bool.{cases_eq, cases_lt}
use Rattle.patch_sets.proofs.Bits.{below_from_small}
use Rattle.known_bytes.specs.Family.{HasValue}

-- a set of bytes has none from 256 on
pub value_small : (low high value : ℕ) → high < 2 ^ 128 → HasValue low high value → value < 256
value_small low high value few is = elim (cases_lt value 256) [
  | inl small ↦ small
  | inr large ↦
      let over : value - 128 < 128 = below_from_small high 128 (value - 128) few (is.large (omega arith)) in
      omega arith
]

-- it holds of each value below n that the set has
pub record AreTaken (low high n : ℕ) (P : ℕ → Type 0) : Type 0 where
  pub each : (value : ℕ) → value < n → HasValue low high value → P value

module _ (low high n : ℕ) where
  pub taken_skip : (P : ℕ → Type 0) → (HasValue low high n → ⊥) → AreTaken low high n P → AreTaken low high (n + 1) P
  taken_skip P lacks before = record {
    each = λ value less is. elim (cases_eq value n) [
      | inl same ↦ absurd (lacks (subst (λ (v : ℕ). HasValue low high v) same is))
      | inr other ↦ before.each value (omega (arith, less, other)) is
    ];
  }

  pub taken_more : (P Q : ℕ → Type 0) → ((value : ℕ) → P value → Q value) → Q n → AreTaken low high n P
      → AreTaken low high (n + 1) Q
  taken_more P Q weaker here before = record {
    each = λ value less is. elim (cases_eq value n) [
      | inl same ↦ subst Q (sym same) here
      | inr other ↦ weaker value (before.each value (omega (arith, less, other)) is)
    ];
  }

  pub taken_all : (P : ℕ → Type 0) → high < 2 ^ 128 → 256 ≤ n → AreTaken low high n P → (value : ℕ)
      → HasValue low high value → P value
  taken_all P few all before value is =
      before.each value (let small = value_small low high value few is in omega (arith, small, all)) is
