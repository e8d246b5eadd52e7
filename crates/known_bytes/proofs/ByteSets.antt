-- Sets of bytes with one byte more.
use Rattle.std.proofs.Common.{◌≡◌, ℕ, ◌-◌, ◌<◌, ◌≤◌, arith, subst, sym}
use Rattle.patch_sets.specs.Sets.{Has, with_id}
use Rattle.patch_sets.proofs.Bits.{in_with_same, in_with_old}
use Rattle.known_bytes.specs.Family.{HasValue}

pub added_low : (low high value i more : ℕ) → value < 128 → i ≡ value → more ≡ with_id low i → HasValue more high value
added_low low high value i more small at is = record {
  small = λ s. subst (λ (m : ℕ). Has m value) (sym is)
      (subst (λ (k : ℕ). Has (with_id low i) k) at (in_with_same low i));
  large = λ l. absurd (omega arith);
}

pub added_high : (low high value i more : ℕ) → 128 ≤ value → i ≡ value - 128 → more ≡ with_id high i
    → HasValue low more value
added_high low high value i more large at is = record {
  small = λ s. absurd (omega arith);
  large = λ l. subst (λ (m : ℕ). Has m (value - 128)) (sym is)
      (subst (λ (k : ℕ). Has (with_id high i) k) at (in_with_same high i));
}

pub kept_low : (low high i more other : ℕ) → more ≡ with_id low i → HasValue low high other → HasValue more high other
kept_low low high i more other is was = record {
  small = λ s. subst (λ (m : ℕ). Has m other) (sym is) (in_with_old low i other (was.small s));
  large = was.large;
}

pub kept_high : (low high i more other : ℕ) → more ≡ with_id high i → HasValue low high other → HasValue low more other
kept_high low high i more other is was = record {
  small = was.small;
  large = λ l. subst (λ (m : ℕ). Has m (other - 128)) (sym is) (in_with_old high i (other - 128) (was.large l));
}
