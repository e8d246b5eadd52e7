use Rattle.std.proofs.Common.{rules, refl, arith, sym, ap, subst, ◌≡◌, ◌∙◌, ℕ, ◌/◌, ◌%◌, [], ◌∷◌, length}
use Rattle.board_rule.specs.Lists.{row_of}
use Rattle.board_rule.proofs.CounterSteps.{announces}
use Rattle.board_rule.proofs.RowSteps.{lays_low, lays_high, publishes_it}
use Rattle.seen_board.specs.Clauses.{Lacks}
use Rattle.seen_board.proofs.board.Board.publish.Goals as goal

pub fetch_add-requires : goal.fetch_add-requires
fetch_add-requires g c = let p = c.args.seat.now.me.0.lives.place in (
  search rules,
  search rules,
  announces _ _ _ _ _ _ (p % 13) (p / 13) (search rules) (omega arith) c.requires.claim.0
      (omega arith) c.requires.writes.2 c.requires.rest.1,
)

pub store-requires : goal.store-requires
store-requires g c = let here : length (row_of c.args.seat.now.me.0.rows.seen c.args.seat.now.me.0.rows.held)
    ≡ c.args.at = ap (λ (q : ℕ). length (row_of c.args.seat.now.me.0.rows.seen q)) c.requires.writes.1
    ∙ sym c.requires.room.0 in let key : c.self.inside.table.shared.key.places ≡ c.args.self.now.places =
    search rules in (
      search rules,
      search rules,
      rw c.fetch_add.ensures.2
          (lays_low _ _ _ _ _ _ _ _ (omega (arith, here, c.requires.writes.1, c.low.ensures)) c.requires.writes.2
          (omega (arith, here, key, c.requires.room.1))),
    )

pub store-requires-2 : goal.store-requires-2
store-requires-2 g c = let here : length (row_of c.args.seat.now.me.0.rows.seen c.args.seat.now.me.0.rows.held)
    ≡ c.args.at = ap (λ (q : ℕ). length (row_of c.args.seat.now.me.0.rows.seen q)) c.requires.writes.1
    ∙ sym c.requires.room.0 in let key : c.self.inside.table.shared.key.places ≡ c.args.self.now.places =
    search rules in let same : c.self.inside.layout.places ≡ c.args.self.now.places = search rules in (
      search rules,
      omega (arith, c.requires.room.1, same, c.self.invariant.0, c.requires.writes.0, c.high.ensures),
      rw c.store.ensures.2 (rw c.fetch_add.ensures.2 (lays_high
          _ _ _ _ _ _ _ _ (omega (arith, here, key, same, c.requires.writes.1, c.high.ensures)) c.requires.writes.2
          (omega (arith, here, key, c.requires.room.1)))),
    )

pub store-requires-3 : goal.store-requires-3
store-requires-3 g c = let p = c.args.seat.now.me.0.lives.place in
    let here : length (row_of c.args.seat.now.me.0.rows.seen c.args.seat.now.me.0.rows.held) ≡ c.args.at =
    ap (λ (q : ℕ). length (row_of c.args.seat.now.me.0.rows.seen q)) c.requires.writes.1 ∙ sym c.requires.room.0 in (
      search rules,
      search rules,
      rw c.store-2.ensures.2 (rw c.store.ensures.2 (rw c.fetch_add.ensures.2
          (publishes_it _ _ _ _ _ _ _ c.args.probe.word _ (p % 13) (p / 13)
          (omega (arith, c.requires.writes.1, c.length.ensures)) (ap (λ (x : ℕ). x ∷ []) c.halves_of-low.ensures.low)
          (ap (λ (x : ℕ). x ∷ []) c.halves_of-low.ensures.high) c.requires.rest.0 refl
          (omega (arith, here)) (omega (arith, c.requires.probe.0, c.requires.writes.1)) (omega arith)
          c.requires.claim.1.0
          (rw (← c.self.view_is) at c.requires.claim.1.1) (subst
          (λ (q : ℕ). Lacks (row_of c.args.seat.now.me.0.rows.seen q) c.args.probe.word) (sym c.requires.writes.1)
          c.requires.absent)))),
    )

pub returns-clause-view : goal.returns-clause-view
returns-clause-view g c = c.store-3.ensures.2 c.args.probe.word
    (rw c.store-2.ensures.2 (rw c.store.ensures.2 (ap (λ (x : ℕ). x ∷ []) c.halves_of-low.ensures.low)))
    (rw c.store-2.ensures.2 (ap (λ (x : ℕ). x ∷ []) c.halves_of-low.ensures.high))
    ∙ rw c.store-2.ensures.2 (rw c.store.ensures.2 (rw c.fetch_add.ensures.2 refl))
