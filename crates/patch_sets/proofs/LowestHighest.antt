-- The lowest and the highest id of a set, and sets with ids less, by their bits.
use Rattle.std.proofs.Common.{◌≡◌, ◌≢◌, ℕ, zero, suc, ◌+◌, ◌-◌, ◌*◌, ◌/◌, ◌%◌, ◌^◌, ◌<◌, ◌≤◌, arith, refl, sym, subst}
use Rattle.std.proofs.Common.{ap, ◌∙◌}
use mathlib.Core.Logic.{dite}
use native.Mathlib.Decide.{ℕ_discrete}
use Rattle.std.specs.Prelude.{bit_and}
use Rattle.std.specs.Int.{bit_at, bit_not, w128}
use Rattle.std.specs.Int.Count.{count_leading_zeros, count_trailing_zeros}
use Rattle.std.proofs.lemmas.Nat.{shr_split, mod_below, leading_top, and_le_l}
use Rattle.std.proofs.lemmas.Nat.Bits.{bit_at_and, bit_at_not, bit_at-lt, bit_at_clear_same, bit_at_clear_other}
use Rattle.std.proofs.lemmas.Nat.Bits.{bit_at_lowest, bit_at-suc, bit_at-zero, bit_at-trailing_zeros}
use Rattle.std.proofs.Math.Nat.{lt_of_not-le}
use Rattle.std.proofs.Math.Pow.{pow_pos}
use Rattle.patch_sets.specs.Sets.{Has}
use Rattle.patch_sets.specs.Ends.{IsLowest, IsHighest, IsWithout, IsDifference}
use Rattle.patch_sets.proofs.Bits.{below_from_small}

not_below : (a b : ℕ) → (b < a → ⊥) → a ≤ b
not_below a b h = let le : a < suc b = lt_of_not-le (λ high. h (omega arith)) in omega arith

-- a number that is not 0 has its lowest 1 after its trailing zeros
pub lowest_id : (set : ℕ) → set ≢ 0 → set < 2 ^ 128 → IsLowest set (count_trailing_zeros 128 set)
lowest_id set some small =
    let found = bit_at-trailing_zeros w128 set (omega arith) small in record {
      inside = found.1;
      least = λ other is. not_below (count_trailing_zeros 128 set) other
          (λ before. let none = found.2 other before in omega (arith, none, is));
    }

-- the bit at the top of a number
top_bit : (n j : ℕ) → 2 ^ j ≤ n → n < 2 ^ suc j → n / 2 ^ j % 2 ≡ 1
top_bit n j low high = ap (λ q. q % 2) (one (n / 2 ^ j) (n % 2 ^ j) (shr_split n j) (mod_below n (2 ^ j) (pow_pos j)))
  where
    one : (q r : ℕ) → q * 2 ^ j + r ≡ n → r < 2 ^ j → q ≡ 1
    one zero r split less = omega arith
    one (suc zero) r split less = refl
    one (suc (suc q)) r split less = omega arith

-- and its highest after its leading zeros
pub highest_id : (set : ℕ) → set ≢ 0 → set < 2 ^ 128 → IsHighest set (127 - count_leading_zeros 128 set)
highest_id set some small =
    let top = leading_top 128 set (omega arith) small in
    let at : 127 - count_leading_zeros 128 set ≡ top.0 = omega (arith, top.1) in
    subst (IsHighest set) (sym at) record {
      inside = top_bit set top.0 top.2 top.3;
      most = λ other is. let below = below_from_small set (suc top.0) other top.3 is in omega (arith, below);
    }

-- `set & !(1 << id)`
pub without_id : (set id : ℕ) → id < 128 → set < 2 ^ 128
    → IsWithout set id (bit_and set (bit_not w128 (1 * 2 ^ id % 2 ^ 128)))
without_id set id known small = record {
  gone = λ is. let none = bit_at_clear_same w128 set id known in omega (arith, none, is);
  others = λ q ne. (
    λ is. sym (same q (below_from_small (bit_and set (bit_not w128 (1 * 2 ^ id % 2 ^ 128))) 128 q rest_small is) ne)
        ∙ is,
    λ is. same q (below_from_small set 128 q small is) ne ∙ is,
  );
}
  where
    same : (q : ℕ) → q < 128 → q ≢ id → bit_at (bit_and set (bit_not w128 (1 * 2 ^ id % 2 ^ 128))) q ≡ bit_at set q
    same q within ne = bit_at_clear_other w128 set id known q within ne

    rest_small : bit_and set (bit_not w128 (1 * 2 ^ id % 2 ^ 128)) < 2 ^ 128
    rest_small = let below = and_le_l set (bit_not w128 (1 * 2 ^ id % 2 ^ 128)) in omega (arith, below)

-- one less: the lowest 1 is gone, each 0 below it is a 1, and what is above it stays
pub record LacksLowest (id n : ℕ) : Type 0 where
  pub gone : bit_at (n - 1) id ≡ 0
  pub below : (q : ℕ) → q < id → bit_at (n - 1) q ≡ 1
  pub above : (q : ℕ) → id < q → bit_at (n - 1) q ≡ bit_at n q

-- from the half of a number
half_above : (n q half : ℕ) → (n - 1) / 2 ≡ half → bit_at half q ≡ bit_at (n / 2) q
    → bit_at (n - 1) (suc q) ≡ bit_at n (suc q)
half_above n q half at same = bit_at-suc (n - 1) q ∙ (ap (λ (m : ℕ). bit_at m q) at ∙ (same ∙ sym (bit_at-suc n q)))

odd_lacks : (n : ℕ) → n % 2 ≡ 1 → LacksLowest 0 n
odd_lacks n odd = record {
  gone = let after = bit_at_lowest (n - 1) in omega (arith, after, odd);
  below = λ q low. absurd (omega (arith, low));
  above = above;
}
  where
    above : (q : ℕ) → 0 < q → bit_at (n - 1) q ≡ bit_at n q
    above zero high = absurd (omega (arith, high))
    above (suc q) high = half_above n q (n / 2) (omega (arith, odd)) refl

even_lacks : (n id : ℕ) → n ≢ 0 → n % 2 ≡ 0 → LacksLowest id (n / 2) → LacksLowest (suc id) n
even_lacks n id some even rest = record {
  gone = bit_at-suc (n - 1) id ∙ (ap (λ (m : ℕ). bit_at m id) half ∙ rest.gone);
  below = below;
  above = above;
}
  where
    half : (n - 1) / 2 ≡ n / 2 - 1
    half = omega (arith, even)

    below : (q : ℕ) → q < suc id → bit_at (n - 1) q ≡ 1
    below zero low = let after = bit_at_lowest (n - 1) in omega (arith, after, even, some)
    below (suc q) low = bit_at-suc (n - 1) q ∙ (ap (λ (m : ℕ). bit_at m q) half ∙ rest.below q (omega (arith, low)))

    above : (q : ℕ) → suc id < q → bit_at (n - 1) q ≡ bit_at n q
    above zero high = absurd (omega (arith, high))
    above (suc q) high = half_above n q (n / 2 - 1) half (rest.above q (omega (arith, high)))

lacks_lowest : (id n : ℕ) → bit_at n id ≡ 1 → ((i : ℕ) → i < id → bit_at n i ≡ 0) → LacksLowest id n
lacks_lowest zero n is none = odd_lacks n (sym (bit_at_lowest n) ∙ is)
lacks_lowest (suc id) n is none =
    even_lacks n id (λ e. let no = bit_at-zero (suc id) in
    absurd (omega (arith, no, subst (λ (m : ℕ). bit_at m (suc id) ≡ 1) e is)))
    (sym (bit_at_lowest n) ∙ none 0 (omega arith))
    (lacks_lowest id (n / 2) (sym (bit_at-suc n id) ∙ is)
    (λ i low. sym (bit_at-suc n i) ∙ none (suc i) (omega (arith, low))))

-- a bit that is not 1
pub zero_bit : (set i : ℕ) → (Has set i → ⊥) → bit_at set i ≡ 0
zero_bit set i out = let few = bit_at-lt set i in dite (ℕ_discrete (bit_at set i) 1) (λ is. absurd (out is))
    (λ other. omega (arith, few, other))

-- a set as a number, less one
pub one_less : (set id : ℕ) → IsLowest set id → LacksLowest id set
one_less set id lowest = lacks_lowest id set lowest.inside
    (λ i low. zero_bit set i (λ is. let near = lowest.least i is in omega (arith, near, low)))

-- `set & (set - 1)`
pub without_lowest_id : (set id : ℕ) → IsLowest set id → IsWithout set id (bit_and set (set - 1))
without_lowest_id set id lowest = record {
  gone = λ is. let t = bit_at_and set (set - 1) id in omega (arith, t, bits.gone, is);
  others = λ q ne. (
    λ is. let t = bit_at_and set (set - 1) q in let a = bit_at-lt set q in let b = bit_at-lt (set - 1) q in
        omega (arith, t, a, b, is),
    λ is. let t = bit_at_and set (set - 1) q in
        let far : id < q = let near = lowest.least q is in omega (arith, near, ne) in
        let same = bits.above q far in omega (arith, t, same, is),
  );
}
  where
    bits : LacksLowest id set
    bits = one_less set id lowest

pub smaller_without : (set id rest : ℕ) → rest ≤ set → IsWithout set id rest → Has set id → rest < set
smaller_without set id rest within less is =
    let other : rest ≢ set = λ e. less.gone (subst (λ s. Has s id) (sym e) is) in omega arith

-- `set & !other`
pub difference_ids : (set other : ℕ) → set < 2 ^ 128 → other < 2 ^ 128
    → IsDifference set other (bit_and set (bit_not w128 other))
difference_ids set other small also = record {
  exactly = λ id. (
    λ is. let t = bit_at_and set (bit_not w128 other) id in let a = bit_at-lt set id in
        let b = bit_at-lt (bit_not w128 other) id in
        let inside : Has set id = omega (arith, t, a, b, is) in
        let flipped = bit_at_not w128 other id also (below_from_small set 128 id small inside) in
        (inside, λ no. omega (arith, t, flipped, is, no)),
    λ is. let t = bit_at_and set (bit_not w128 other) id in
        let c = bit_at-lt other id in
        let out : bit_at other id ≢ 1 = is.1 in
        let inside : bit_at set id ≡ 1 = is.0 in
        let flipped = bit_at_not w128 other id also (below_from_small set 128 id small is.0) in
        omega (arith, t, flipped, c, inside, out),
  );
}
