-- Rights, as callers see them.
use Rattle.std.proofs.Common.{◌≡◌, ℕ, ◌<◌, ◌≤◌, List, [], length, get_or, set, refl, ap, ◌∙◌, arith, length-set}
use Rattle.std.proofs.Common.{get_or-set_other, get_or-set_same}
use Rattle.atomic_table.specs.Seated.{TableId}
use Rattle.atomic_table.specs.Table.{Me}
use Rattle.board_rule.specs.Lists.{row_of, StartsWith}
use Rattle.board_rule.specs.Plays.{IsIdle, Takes}
use Rattle.board_rule.specs.declared.view.View.{View}
use Rattle.board_rule.proofs.Sums.{starts-refl, rows_cases}
use Rattle.seen_board.specs.Known.{known_of, Rests, Counts}
use Rattle.seen_board.specs.Clauses.{SeesOn, Gains}

-- where one row is seen further
pub sees_set : (seen : List (List ℕ)) (q : ℕ) (row : List ℕ) → length seen ≡ 13 → q < 13
    → StartsWith row (row_of seen q) → SeesOn seen (set seen q row)
sees_set seen q row all near more = rows_cases seen q row (λ p r. StartsWith r (row_of seen p)) all near more
    (λ p h ne. starts-refl (row_of seen p))

pub counts_set : (places : ℕ) (counts : List ℕ) (seen : List (List ℕ)) (q n : ℕ) (row : List ℕ) → length counts ≡ 13
    → Counts places counts seen → q < 13 → n ≡ length row → length row ≤ places
    → Counts places (set counts q n) (set seen q row)
counts_set places counts seen q n row thirteen o near is fits = record {
  small = o.small;
  all = length-set seen q row ∙ o.all;
  each = rows_cases seen q row (λ p r. get_or (set counts q n) p 0 ≡ length r) o.all near
      (get_or-set_same counts q n 0 (omega (arith, thirteen)) ∙ is)
      (λ p h ne. get_or-set_other counts q p n 0 ne ∙ o.each p h);
  short = rows_cases seen q row (λ p r. length r ≤ places) o.all near fits (λ p h ne. o.short p h);
}

module _ {v w : View} {right q : ℕ} (t : Takes v right q w) where
  pub takes_right : w.rows.right ≡ right
  takes_right = ap (λ (x : View). x.rows.right) t.is

  pub takes_held : w.rows.held ≡ q
  takes_held = ap (λ (x : View). x.rows.held) t.is

  pub takes_limit : w.limit ≡ v.limit
  takes_limit = ap (λ (x : View). x.limit) t.is

  pub takes_places : w.places ≡ v.places
  takes_places = ap (λ (x : View). x.places) t.is

  pub takes_gains : (id id' : TableId) → id' ≡ id → length v.rows.seen ≡ 13 → q < 13
      → Gains (known_of id v) right q (known_of id' w)
  takes_gains id id' same all near = (rw same (rw t.is refl), rw t.is (sees_set v.rows.seen q t.row all near t.more))

  pub takes_idle : IsIdle v → IsIdle w
  takes_idle o = rw t.is record {
    low = refl;
    high = refl;
    unfiled = refl;
    announced = o.announced;
    owed = o.owed;
    uncounted = o.uncounted;
  }

  pub takes_counts : (counts : List ℕ) (n : ℕ) → length counts ≡ 13 → Counts v.places counts v.rows.seen → q < 13
      → n ≡ length (row_of w.rows.seen q) → Counts w.places (set counts q n) w.rows.seen
  takes_counts counts n thirteen o near is = rw t.is (counts_set v.places counts v.rows.seen q n t.row thirteen o near
      (is ∙ ap (λ (x : View). length (row_of x.rows.seen q)) t.is
      ∙ ap length (get_or-set_same v.rows.seen q t.row [] (omega (arith, near, o.all)))) t.short)

pub takes_rests : {m n : Me Unit View} {right q : ℕ} → Rests m → n.1 ≡ m.1 → Takes m.0 right q n.0 → Rests n
takes_rests o same t = (same ∙ o.0, omega (arith, o.1, takes_places t), takes_idle t o.2)

-- what the fields of a seat are after a right was had and its row measured
pub takes_ok : {m n n' : Me Unit View} {right q : ℕ} (counts : List ℕ) (c : ℕ) → Takes m.0 right q n.0 → n.1 ≡ m.1
    → n' ≡ n → length counts ≡ 13 → Rests m × Counts m.0.places counts m.0.rows.seen → q < 13
    → c ≡ length (row_of n.0.rows.seen q) → Rests n' × Counts n'.0.places (set counts q c) n'.0.rows.seen
takes_ok counts c t same e thirteen o near is = rw e (
  takes_rests o.0 same t,
  takes_counts t counts c thirteen o.1 near is,
)
