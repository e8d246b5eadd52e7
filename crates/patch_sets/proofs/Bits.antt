-- Sets of ids, by their bits.
use Rattle.std.proofs.Common.{◌≡◌, ◌≢◌, ℕ, zero, suc, ◌+◌, ◌*◌, ◌/◌, ◌%◌, ◌^◌, ◌<◌, min, max, arith, refl, sym, subst}
use Rattle.std.proofs.Common.{ap, ◌∙◌, inl, inr}
use Rattle.std.specs.Prelude.{◌⊎◌, bit_and, bit_or}
use Rattle.std.specs.Int.{bit_at}
use Rattle.std.proofs.lemmas.Bool.Decides.{eqb_tells}
use Rattle.std.proofs.lemmas.Nat.{shr_split, mod_below}
use Rattle.std.proofs.lemmas.Nat.Bits.{bit_at_and, bit_at_or, bit_at-pow_same, bit_at-pow_other, bit_at-lt, bit_at-zero}
use Rattle.std.proofs.lemmas.Nat.Bits.{same_from_bits, bit_at_above, bit_at_cat_low}
use Rattle.std.proofs.Math.Nat.{lt_of_not-le, div-eq_of_lt}
use Rattle.std.proofs.Math.Pow.{pow_pos}
use Rattle.patch_sets.specs.Sets.{Has, IsSubset, with_id}

pub eq_or_not : (a b : ℕ) → (a ≡ b) ⊎ (a ≢ b)
eq_or_not a b = grind (arith, eqb_tells a b)

-- the empty set has no id
pub none_in_empty : (id : ℕ) → Has 0 id → ⊥
none_in_empty id is = omega (arith, bit_at-zero id, is)

-- two sets with the same ids are equal
pub same_set : (a b : ℕ) → IsSubset a b → IsSubset b a → a ≡ b
same_set a b there back = same_from_bits a b (λ i. by_bit (bit_at a i) (bit_at b i) (bit_at-lt a i) (bit_at-lt b i)
    (there i) (back i))
  where
    by_bit : (x y : ℕ) → x < 2 → y < 2 → (x ≡ 1 → y ≡ 1) → (y ≡ 1 → x ≡ 1) → x ≡ y
    by_bit zero zero lx ly to from = refl
    by_bit zero (suc y) lx ly to from = let one : suc y ≡ 1 = omega arith in from one ∙ sym one
    by_bit (suc x) y lx ly to from = let one : suc x ≡ 1 = omega arith in one ∙ sym (to one)

-- `part & whole == part`
pub subset_from_and : (part whole : ℕ) → bit_and part whole ≡ part → IsSubset part whole
subset_from_and part whole e id is =
    let both : min (bit_at part id) (bit_at whole id) ≡ bit_at part id = sym (bit_at_and part whole id)
    ∙ ap (λ s. bit_at s id) e in
    omega (arith, bit_at-lt whole id)

pub and_from_subset : (part whole : ℕ) → IsSubset part whole → bit_and part whole ≡ part
and_from_subset part whole within = same_from_bits (bit_and part whole) part
    (λ i. bit_at_and part whole i ∙ by_bit (bit_at part i) (bit_at whole i) (bit_at-lt part i) (within i))
  where
    by_bit : (x y : ℕ) → x < 2 → (x ≡ 1 → y ≡ 1) → min x y ≡ x
    by_bit zero y lx to = omega arith
    by_bit (suc x) y lx to = let one : suc x ≡ 1 = omega arith in omega (arith, to one)

-- ---- one id more

pub in_with_same : (set id : ℕ) → Has (with_id set id) id
in_with_same set id = bit_at_or set (2 ^ id) id ∙ ap (λ b. max (bit_at set id) b) (bit_at-pow_same id)
    ∙ top (bit_at set id) (bit_at-lt set id)
  where
    top : (x : ℕ) → x < 2 → max x 1 ≡ 1
    top x h = omega arith

with_other : (set id other : ℕ) → other ≢ id → bit_at (with_id set id) other ≡ bit_at set other
with_other set id other ne = bit_at_or set (2 ^ id) other
    ∙ ap (λ b. max (bit_at set other) b) (bit_at-pow_other id other ne) ∙ low (bit_at set other)
  where
    low : (x : ℕ) → max x 0 ≡ x
    low x = omega arith

pub in_with_old : (set id other : ℕ) → Has set other → Has (with_id set id) other
in_with_old set id other is = elim (eq_or_not other id) [
  | inl e ↦ subst (λ x. Has (with_id set id) x) (sym e) (in_with_same set id)
  | inr ne ↦ with_other set id other ne ∙ is
]

pub in_with_cases : (set id other : ℕ) → Has (with_id set id) other → (other ≡ id) ⊎ Has set other
in_with_cases set id other is = elim (eq_or_not other id) [
  | inl e ↦ inl e
  | inr ne ↦ inr (sym (with_other set id other ne) ∙ is)
]

-- ---- two sets together

pub in_or_cases : (a b id : ℕ) → Has (bit_or a b) id → Has a id ⊎ Has b id
in_or_cases a b id is = by_bit (bit_at a id) (bit_at b id) (sym (bit_at_or a b id) ∙ is)
  where
    by_bit : (x y : ℕ) → max x y ≡ 1 → (x ≡ 1) ⊎ (y ≡ 1)
    by_bit zero y h = inr (omega arith)
    by_bit (suc zero) y h = inl refl
    by_bit (suc (suc x)) y h = absurd (omega arith)

pub in_or_left : (a b id : ℕ) → Has a id → Has (bit_or a b) id
in_or_left a b id is = let low : max (bit_at a id) (bit_at b id) ≡ 1 = omega (arith, is, bit_at-lt b id) in
    bit_at_or a b id ∙ low

pub in_or_right : (a b id : ℕ) → Has b id → Has (bit_or a b) id
in_or_right a b id is = let low : max (bit_at a id) (bit_at b id) ≡ 1 = omega (arith, is, bit_at-lt a id) in
    bit_at_or a b id ∙ low

-- ---- the ids below n

-- a set of ids below n has none from n on
pub below_from_small : (set n id : ℕ) → set < 2 ^ n → Has set id → id < n
below_from_small set n id small is = lt_of_not-le (λ high. let none : bit_at set id ≡ 0 =
    bit_at_above set n id small high in absurd (omega (arith, none, is)))

pub in_low : (set n id : ℕ) → id < n → bit_at (set % 2 ^ n) id ≡ bit_at set id
in_low set n id below = sym (bit_at_cat_low (set / 2 ^ n) n (set % 2 ^ n) id below)
    ∙ ap (λ s. bit_at s id) (shr_split set n)

pub low_small : (set n : ℕ) → set % 2 ^ n < 2 ^ n
low_small set n = mod_below set (2 ^ n) (pow_pos n)

pub from_low : (set n id : ℕ) → Has (set % 2 ^ n) id → (id < n) × Has set id
from_low set n id is = let below : id < n = below_from_small (set % 2 ^ n) n id (low_small set n) is in
    (below, sym (in_low set n id below) ∙ is)

-- a set whose ids are below n
pub small_from_below : (set n : ℕ) → ((id : ℕ) → Has set id → id < n) → set < 2 ^ n
small_from_below set n all =
    let same : set % 2 ^ n ≡ set = same_set (set % 2 ^ n) set (λ id is. (from_low set n id is).1)
    (λ id is. in_low set n id (all id is) ∙ is) in
    subst (λ s. s < 2 ^ n) same (low_small set n)

-- `set >> n == 0`
pub small_from_shift : (set n : ℕ) → set / 2 ^ n ≡ 0 → set < 2 ^ n
small_from_shift set n none =
    let split : 0 * 2 ^ n + set % 2 ^ n ≡ set = subst (λ q. q * 2 ^ n + set % 2 ^ n ≡ set) none (shr_split set n) in
    let same : set % 2 ^ n ≡ set = omega (arith, split) in
    subst (λ s. s < 2 ^ n) same (low_small set n)

pub shift_from_small : (set n : ℕ) → set < 2 ^ n → set / 2 ^ n ≡ 0
shift_from_small set n small = div-eq_of_lt small
