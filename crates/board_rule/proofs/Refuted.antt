-- Seats that cannot be side by side.
use Rattle.std.proofs.Common.{◌≡◌, ℕ, ◌<◌, ◌≤◌, length, get_or, ap, ⊎_elim, arith}
use mathlib.Core.Option.{none, some}
use lib.ListN.{get_elem?}
use Rattle.atomic_table.specs.Table.{State, Me, step, Joins, Allows}
use Rattle.atomic_table.proofs.Lists.{at_set}
use Rattle.board_rule.specs.Layout.{writer, place_of}
use Rattle.board_rule.specs.Lists.{row_of}
use Rattle.board_rule.specs.Views.{Fixed}
use Rattle.board_rule.specs.Rule.{claims_on, times, IsKept}
use Rattle.board_rule.specs.Changes.{impossible_view, spent_view}
use Rattle.board_rule.specs.Plays.{never}
use Rattle.board_rule.specs.declared.view.View.{View}
use Rattle.board_rule.proofs.Sums.{terms_le, starts-length}
use Rattle.board_rule.proofs.Locks.{alone}
use Rattle.board_rule.proofs.Lives.{is_claimed_low}
use Rattle.board_rule.proofs.Added.{published_low}

module _ (t : Fixed) (good : ℕ → Type 0) (S : Type 0) where
  abbrev Rule : State S View → Type 0
  Rule = IsKept t good

  -- no seat is at a shard 13, so none takes a step there
  pub nowhere : (n id : ℕ) (m : Me S View) (i : ℕ) → 13 ≤ m.0.rows.held
      → Allows Rule n id m i (λ y. y) (never (step n i 0 0 none) m)
  nowhere n id m i far s o wide me _ = absurd (omega (arith, far, (o.seats id m.0 me).near))

  module _ (id other : ℕ) (v w : View) where
    -- where two seats contradict the rule, their joining does not break it
    clash : ((s : State S View) → Rule s → get_elem? s.views id ≡ some v → get_elem? s.views other ≡ some w
        → ¬ (other ≡ id) → ⊥) → Joins Rule id v other w (impossible_view v w) spent_view
    clash refute s o me apart it = absurd (refute s o me (⊎_elim (λ h. absurd (apart h.0)) (λ h. h.1)
        (at_set s.views id other (impossible_view v w) w it)) apart)

    -- a writer, and a right of the same shard
    pub clashes_right : v.rows.right ≡ writer → w.rows.held ≡ v.rows.held → 0 < w.rows.right
        → Joins Rule id v other w (impossible_view v w) spent_view
    clashes_right writes here some-right = clash (λ s o me at-w apart.
        omega (
          arith,
          some-right,
          alone s.words s.views id other v w o.locks (o.seats id v me).near me at-w apart writes
              here,
        ))

    -- a seat with a right that has seen less than another
    pub clashes_unseen : 0 < v.rows.right → length (row_of v.rows.seen v.rows.held)
        < length (row_of w.rows.seen v.rows.held) → Joins Rule id v other w (impossible_view v w) spent_view
    clashes_unseen some-right fewer = clash (λ s o me at-w apart. let k = o.seats id v me in
        omega (
          arith,
          fewer,
          ap length (k.whole some-right),
          starts-length (row_of o.rows v.rows.held) (row_of w.rows.seen v.rows.held)
              ((o.seats other w at-w).saw v.rows.held k.near),
        ))

    -- two claims on one place, each had or given up
    pub clashes_claim : (q k : ℕ) → q < 13 → 1 ≤ claims_on (place_of q k) v → 1 ≤ claims_on (place_of q k) w
        → Joins Rule id v other w (impossible_view v w) spent_view
    clashes_claim q k near a c = clash (λ s o me at-w apart.
        omega (
          arith,
          terms_le (claims_on (place_of q k)) s.views id other v w apart me at-w,
          o.life.claimed q k near,
          is_claimed_low (get_or (row_of o.lives q) k 0),
          a,
          c,
        ))

    -- two authors of one entry
    pub clashes_added : (p : ℕ) → 1 ≤ times p v → 1 ≤ times p w
        → Joins Rule id v other w (impossible_view v w) spent_view
    clashes_added p a b = clash (λ s o me at-w apart. omega
        (arith, terms_le (times p) s.views id other v w apart me at-w, o.added.once p, published_low o.rows p, a, b))
