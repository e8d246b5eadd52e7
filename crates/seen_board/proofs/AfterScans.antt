-- What a seat has seen after the load of an index word.
use Rattle.std.proofs.Common.{◌≡◌, ℕ, ◌<◌, ◌≤◌, List, [], length, get_or, set, refl, ap, ◌∙◌, arith, get_or-set_same}
use Rattle.std.specs.Prelude.{max}
use Rattle.atomic_table.specs.Seated.{TableId}
use Rattle.atomic_table.specs.Table.{Me}
use Rattle.board_rule.specs.Lists.{row_of}
use Rattle.board_rule.specs.Plays.{IsIdle, Scans}
use Rattle.board_rule.specs.declared.view.View.{View}
use Rattle.seen_board.specs.Known.{known_of, Rests, Counts}
use Rattle.seen_board.specs.Clauses.{Sees}
use Rattle.seen_board.proofs.AfterRights.{sees_set, counts_set}

module _ {v w : View} {q named : ℕ} (t : Scans v q named w) where
  pub scans_sees : (id id' : TableId) → id' ≡ id → length v.rows.seen ≡ 13 → q < 13
      → Sees (known_of id v) (known_of id' w)
  scans_sees id id' same all near = (rw same (rw t.is refl), rw t.is (sees_set v.rows.seen q t.row all near t.more))

  pub scans_named : length v.rows.seen ≡ 13 → q < 13 → named ≤ length (row_of w.rows.seen q)
  scans_named all near = rw t.is (omega (
    arith,
    t.long,
    ap length
        (get_or-set_same v.rows.seen q t.row [] (omega (arith, all, near))),
  ))

  pub scans_idle : IsIdle v → IsIdle w
  scans_idle o = rw t.is record {
    low = o.low;
    high = o.high;
    unfiled = o.unfiled;
    announced = o.announced;
    owed = o.owed;
    uncounted = o.uncounted;
  }

  pub scans_counts : (counts : List ℕ) (n : ℕ) → length counts ≡ 13 → Counts v.places counts v.rows.seen → q < 13
      → n ≡ max (get_or counts q 0) named → Counts w.places (set counts q n) w.rows.seen
  scans_counts counts n thirteen o near is = rw t.is (counts_set v.places counts v.rows.seen q n t.row thirteen o near
      (omega (arith, is, o.each q near, t.long)) (omega (arith, t.long, o.short q near, t.within)))

pub scans_ok : {m n : Me Unit View} {q named : ℕ} (counts : List ℕ) (c : ℕ) → Scans m.0 q named n.0 → n.1 ≡ m.1
    → length counts ≡ 13 → Rests m × Counts m.0.places counts m.0.rows.seen → q < 13 → c ≡ max (get_or counts q 0) named
    → Rests n × Counts n.0.places (set counts q c) n.0.rows.seen
scans_ok counts c t same thirteen o near is = (
  (
    same ∙ o.0.0,
    omega (arith, o.0.1, ap (λ (x : View). x.places) t.is),
    scans_idle t o.0.2,
  ),
  scans_counts t counts c thirteen o.1 near is,
)
