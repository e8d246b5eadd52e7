-- No byte of a set is above its last one.
use Rattle.std.proofs.Common.{◌≡◌, ℕ, ◌+◌, ◌-◌, ◌≤◌, arith, inl, inr, subst}
use Rattle.std.proofs.lemmas.Bool.{cases_lt}
use Rattle.patch_sets.specs.Ends.{IsHighest}
use Rattle.patch_sets.specs.Sets.{Has}
use Rattle.patch_sets.proofs.Bits.{none_in_empty}
use Rattle.known_bytes.specs.Family.{HasValue}

pub not_above_high : (low high id value : ℕ) → IsHighest high id → HasValue low high value → value ≤ id + 128
not_above_high low high id value is has = elim (cases_lt 127 value) [
  | inl large ↦ let most = is.most (value - 128) (has.large (omega arith)) in omega arith
  | inr small ↦ omega arith
]

pub not_above_low : (low high id value : ℕ) → high ≡ 0 → IsHighest low id → HasValue low high value → value ≤ id
not_above_low low high id value none is has = elim (cases_lt 127 value) [
  | inl large ↦ absurd (none_in_empty (value - 128) (subst (λ (h : ℕ). Has h (value - 128)) none
      (has.large (omega arith))))
  | inr small ↦ is.most value (has.small (omega arith))
]

pub not_above_none : (low high value : ℕ) → high ≡ 0 → low ≡ 0 → HasValue low high value → value ≤ 0
not_above_none low high value none empty has = elim (cases_lt 127 value) [
  | inl large ↦ absurd (none_in_empty (value - 128) (subst (λ (h : ℕ). Has h (value - 128)) none
      (has.large (omega arith))))
  | inr small ↦ absurd (none_in_empty value (subst (λ (l : ℕ). Has l value) empty (has.small (omega arith))))
]

pub ruleset ends = (not_above_high, not_above_low, not_above_none)
