-- What two seats know together.
use Rattle.std.proofs.Common.{◌≡◌, ℕ, ◌+◌, ◌<◌, ◌≤◌, true, cond, List, length, get_or, set, ap, ◌∙◌, sym, arith}
use Rattle.std.proofs.Common.{get_or-set_same, get_or-set_other}
use Rattle.std.specs.Prelude.{max}
use mathlib.Core.Logic.{dite}
use native.Mathlib.Decide.{ℕ_discrete}
use Rattle.atomic_table.specs.Seated.{TableId}
use Rattle.board_rule.specs.Lists.{row_of, StartsWith, longer_rows, agree}
use Rattle.board_rule.specs.Changes.{both_views}
use Rattle.board_rule.specs.Plays.{IsIdle}
use Rattle.board_rule.specs.declared.view.View.{View}
use Rattle.board_rule.proofs.Seats.{merged_agrees, merged_length, joined_agree}
use Rattle.seen_board.specs.Known.{known_of, Counts}
use Rattle.seen_board.specs.Clauses.{SeesOn, both_known}

-- the larger number at one more place
pub larger_so_far : (counts first second : List ℕ) (q n : ℕ) → q < length counts
    → n ≡ max (get_or counts q 0) (get_or second q 0) → ((p : ℕ) → p < q
    → get_or counts p 0 ≡ max (get_or first p 0) (get_or second p 0))
    → ((p : ℕ) → q ≤ p → get_or counts p 0 ≡ get_or first p 0)
    → (p : ℕ) → p < q + 1 → get_or (set counts q n) p 0 ≡ max (get_or first p 0) (get_or second p 0)
larger_so_far counts first second q n inside is done rest p h = dite (ℕ_discrete p q)
    (λ e. rw e (get_or-set_same counts q n 0 inside ∙ is ∙ ap (λ (x : ℕ). max x (get_or second q 0))
    (rest q (omega arith))))
    (λ ne. get_or-set_other counts q p n 0 ne ∙ done p (omega (arith, h, ne)))

module _ (v w : View) (near : (both_views v w).rows.held < 13) (all-v : length v.rows.seen ≡ 13)
    (all-w : length w.rows.seen ≡ 13) where
  agreed : agree v.rows.seen w.rows.seen ≡ true
  agreed = joined_agree v w near

  held : (both_views v w).rows.held ≡ v.rows.held
  held = ap {B = ℕ} (λ t. cond t v.rows.held 13) agreed

  pub join_knows : (a b c : TableId) → b ≡ a → known_of b (both_views v w) ≡ both_known (known_of a v) (known_of c w)
      (longer_rows v.rows.seen w.rows.seen)
  join_knows a b c e = rw e (ap (λ (h : ℕ). record (both_known (known_of a v) (known_of c w)
      (longer_rows v.rows.seen w.rows.seen)) { held = h }) held)

  rows : (q : ℕ) → StartsWith (row_of (longer_rows v.rows.seen w.rows.seen) q) (row_of v.rows.seen q)
      × StartsWith (row_of (longer_rows v.rows.seen w.rows.seen) q) (row_of w.rows.seen q)
      × (length (row_of (longer_rows v.rows.seen w.rows.seen) q) ≡ max (length (row_of v.rows.seen q))
      (length (row_of w.rows.seen q)))
  rows q = let m = merged_agrees v.rows.seen w.rows.seen q (all-v ∙ sym all-w) agreed in rw m.0 m.1

  pub join_first : SeesOn v.rows.seen (longer_rows v.rows.seen w.rows.seen)
  join_first q h = (rows q).0

  pub join_second : SeesOn w.rows.seen (longer_rows v.rows.seen w.rows.seen)
  join_second q h = (rows q).1

  pub join_counts : (places : ℕ) (first second counts : List ℕ) → Counts places first v.rows.seen
      → Counts places second w.rows.seen → ((q : ℕ) → q < 13
      → get_or counts q 0 ≡ max (get_or first q 0) (get_or second q 0))
      → Counts places counts (longer_rows v.rows.seen w.rows.seen)
  join_counts places first second counts o u is = record {
    small = o.small;
    all = merged_length v.rows.seen w.rows.seen ∙ all-v;
    each = λ q h. omega (arith, is q h, o.each q h, u.each q h, (rows q).2);
    short = λ q h. omega (arith, o.short q h, u.short q h, (rows q).2);
  }

pub join_idle : (v w : View) → IsIdle v → IsIdle (both_views v w)
join_idle v w o = record {
  low = o.low;
  high = o.high;
  unfiled = o.unfiled;
  announced = o.announced;
  owed = o.owed;
  uncounted = o.uncounted;
}
