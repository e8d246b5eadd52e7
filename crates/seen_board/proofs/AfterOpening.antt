-- What a new seat has seen.
use Rattle.std.proofs.Common.{◌≡◌, ℕ, zero, suc, ◌/◌, ◌%◌, ◌<◌, ◌≤◌, List, [], ◌∷◌, length, get_or, set, replicate}
use Rattle.std.proofs.Common.{cond, le-ltb, refl, ap, ◌∙◌, sym, arith}
use mathlib.Core.Logic.{dite}
use native.Mathlib.Decide.{ℕ_discrete, dec_le}
use Rattle.atomic_table.specs.Seated.{TableId}
use Rattle.board_rule.specs.Lists.{row_of, total}
use Rattle.board_rule.specs.Lives.{life_of, is_claimed, is_settled}
use Rattle.board_rule.specs.Layout.{half, size_for, place_of, length_word, low_word, high_word, index_word, slot}
use Rattle.board_rule.specs.Changes.{opening_rows, opening_words, first_view}
use Rattle.board_rule.proofs.Lives.{in_range, claim_none}
use Rattle.board_rule.proofs.Pending.{lives_term}
use Rattle.seen_board.specs.Known.{Counts, first_known}
use Rattle.seen_board.specs.Ended.{Ended, Accounts, IsOpening}
use Rattle.seen_board.proofs.AfterRights.{counts_set}

nil_at : (n q : ℕ) → row_of (replicate n []) q ≡ []
nil_at zero q = refl
nil_at (suc n) zero = refl
nil_at (suc n) (suc q) = nil_at n q

zero_at : (n q : ℕ) → get_or {A = ℕ} (replicate n 0) q 0 ≡ 0
zero_at zero q = refl
zero_at (suc n) zero = refl
zero_at (suc n) (suc q) = zero_at n q

pub opening_counts : (places start : ℕ) → 0 < places → places ≤ 32768
    → Counts places (set (replicate 13 0) (start % 13) 1) (opening_rows start)
opening_counts places start wide small = counts_set places (replicate 13 0) (replicate 13 []) (start % 13) 1
    (start ∷ []) refl record {
      small = small;
      all = refl;
      each = λ q h. zero_at 13 q ∙ ap length (sym (nil_at 13 q));
      short = λ q h. omega (arith, ap length (nil_at 13 q));
    } (omega arith) refl (omega (arith, wide))

-- the words as they are written, one after another
pub opening_is : (places start a b c d low high : ℕ) (w : List ℕ) → w ≡ replicate (size_for places) 0
    → a ≡ length_word (start % 13) → b ≡ low_word (start % 13) 0 → c ≡ high_word places (start % 13) 0
    → d ≡ index_word places (start % 13) (slot places start 0)
    → low ≡ start % half → high ≡ start / half → set (set (set (set (set (set w 0 1) 1 1) a 1) b low) c high) d 1
    ≡ opening_words places start
opening_is places start a b c d low high w e f g h i j k = rw (e, f, g, h, i, j, k) refl

row_there : (xs : List (List ℕ)) (q : ℕ) → 0 < length (row_of xs q) → q < length xs
row_there [] q h = absurd (omega (arith, h))
row_there (x ∷ xs) zero h = omega arith
row_there (x ∷ xs) (suc q) h = omega (arith, row_there xs q h)

-- a life that is neither claimed nor among any settled ones is waiting
waits : (lives : List (List ℕ)) (q : ℕ) → is_claimed (get_or (row_of lives q) 0 0) ≡ 0
    → total (total is_settled) lives ≡ 0 → get_or (row_of lives q) 0 0 ≡ 0
waits lives q unclaimed none = let n = get_or (row_of lives q) 0 0 in dite (dec_le 2 n)
    (λ two. let inside = in_range (row_of lives q) 0 (omega (arith, two)) in
    absurd (omega (
      arith,
      none,
      lives_term is_settled lives q 0 (row_there lives q inside) inside,
      ap {B = ℕ} (λ b. cond b 0 1) (le-ltb n 2 two),
    )))
    (λ low. dite (ℕ_discrete n 1) (λ e. absurd (omega (arith, unclaimed, ap is_claimed e)))
    (λ ne. omega (arith, low, ne)))

-- what a seat knows that has made no call
pub opening_fixed : (b : TableId) (limit places start : ℕ) (e : Ended)
    → Accounts start (first_known b limit places start) e → IsOpening start e
opening_fixed b limit places start e a = let q = start % 13 in record {
  waiting = ap life_of (waits e.lives q (omega (
    arith,
    a.claimed q 0 (omega arith),
    claim_none (first_view limit places start) (place_of q 0) refl,
  )) a.settled);
  pending = omega (arith, a.pending);
  count = a.count;
}
