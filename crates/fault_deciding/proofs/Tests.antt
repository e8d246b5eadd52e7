-- What tests say that are true.
use Rattle.std.proofs.Common.{◌≡◌, ◌≢◌, ℕ, ◌+◌, ◌-◌, ◌<◌, ◌≤◌, ◌⊎◌, inl, inr, Bool, true, false, ◌&&◌, not, ◌^◌}
use Rattle.std.proofs.Common.{arith, tests}
use Rattle.std.proofs.Common.{refl}
use Rattle.std.specs.Prelude.{◌==◌, nat_lt}
use Rattle.patch_sets.proofs.Bits.{below_from_small}
use Rattle.known_bytes.specs.Family.{HasValue}

pub true_or_false : (b : Bool) → (b ≡ true) ⊎ (b ≡ false)
true_or_false true = inl refl
true_or_false false = inr refl

pub below_is : (a b : ℕ) → nat_lt a b ≡ true → a < b
below_is a b h = grind (arith, tests)

pub left_of : (a b : Bool) → (a && b) ≡ true → a ≡ true
left_of true b h = refl
left_of false b h = absurd (cc)

pub right_of : (a b : Bool) → (a && b) ≡ true → b ≡ true
right_of true b h = h
right_of false b h = absurd (cc)

pub not_of : (a : Bool) → not a ≡ true → a ≡ false
not_of true h = absurd (cc)
not_of false h = refl

pub some_of : (a : ℕ) → not (a == 0) ≡ true → a ≢ 0
some_of a h = grind (arith, tests)

pub next_of : (a : ℕ) → not (a == 0) ≡ true → a ≡ a - 1 + 1
next_of a h = grind (arith, tests)

at_least_or_below : (a b : ℕ) → (a ≤ b) ⊎ (b < a)
at_least_or_below a b = grind arith

-- a value of a set of bytes is a byte
pub value_small : (low high value : ℕ) → high < 2 ^ 128 → HasValue low high value → value < 256
value_small low high value fits is = elim (at_least_or_below 128 value) [
  | inl large ↦ let id : value - 128 < 128 = below_from_small high 128 (value - 128) fits (is.large large) in omega
      arith
  | inr small ↦ omega arith
]
