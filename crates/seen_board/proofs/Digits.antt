-- The shard and the first index word of a word, from what a division leaves.
use Rattle.std.proofs.Common.{◌≡◌, ℕ, ◌+◌, ◌*◌, ◌/◌, ◌%◌, ◌<◌, ap, arith, ◌∙◌}
use Rattle.std.proofs.Math.Arith.{mod-mul}
use Rattle.std.proofs.lemmas.Nat.{div-mul-add, mod_below}
use Rattle.board_rule.specs.Layout.{half, slot}

-- 2^64 leaves 3
pub shard_by_halves : (word : ℕ) → (3 * (word / half % 13) + word % half % 13) % 13 ≡ word % 13
shard_by_halves word = omega arith

-- the last digit, and the one before it
pub last_digit : (word places : ℕ) → 0 < places → word % (13 * places) % 13 ≡ word % 13
last_digit word places some = omega arith

pub rest_of_digits : (word places : ℕ) → 0 < places → word % (13 * places) / 13 ≡ word / 13 % places
rest_of_digits word places some =
    let turned : 13 * places ≡ places * 13 = omega arith in
    let digits : word % (13 * places) ≡ (word / 13 % places) * 13 + word % 13 = ap (λ (n : ℕ). word % n) turned
    ∙ mod-mul word some (omega arith) in
    ap (λ (n : ℕ). n / 13) digits ∙ div-mul-add (word / 13 % places) 13 (word % 13) (mod_below word 13 (omega arith))

-- what is in a probe
pub probe_is : (word places left : ℕ) → 0 < places → left ≡ word % (13 * places) → (left % 13 ≡ word % 13)
    × (left / 13 ≡ slot places word 0) × (left / 13 < places)
probe_is word places left some is =
    let first : left / 13 ≡ word / 13 % places = ap (λ (n : ℕ). n / 13) is ∙ rest_of_digits word places some in
    let same : word / 13 ≡ word / 13 + 0 = omega arith in (
      ap (λ (n : ℕ). n % 13) is ∙ last_digit word places some,
      first ∙ ap (λ (n : ℕ). n % places) same,
      omega (arith, first, mod_below (word / 13) places some),
    )
