use Rattle.std.proofs.Common.{rules, ℕ, List, ◌≡◌, ◌∙◌, ◌<◌, length, arith, ap}
use Rattle.atomic_table.specs.Table.{Me}
use Rattle.board_rule.specs.Lists.{row_of}
use Rattle.board_rule.specs.declared.view.View.{View}
use Rattle.board_rule.proofs.IndexSteps.{reads_mark}
use Rattle.seen_board.proofs.board.Board.search.Goals as goal

pub load-mark-requires : goal.load-mark-requires
load-mark-requires g c = (search rules, search rules, reads_mark _ _ _ _ _ _ _ (search rules) (search rules))

pub entry-requires-clause-seen : goal.entry-requires-clause-seen
entry-requires-clause-seen g c = let informed : c.loop-t.seat.me.0.places ≡ c.self.inside.layout.places =
    search rules in
    let held : c.loop-t.seat.me.0.rows.held ≡ c.args.probe.shard = search rules in
    let seen : c.loop-t.seat.me.0.rows.seen ≡ c.args.seat.now.me.0.rows.seen = search rules in
    let named = (c.load-mark.ensures.2.1 c.slot-slot.result (omega (arith, informed, held, c.mark.ensures))
    (omega (arith, informed, c.slot-slot.ensures.below))).1 in
    let row : length (row_of c.loop-t.seat.me.0.rows.seen c.loop-t.seat.me.0.rows.held)
    ≡ length (row_of c.args.seat.now.me.0.rows.seen c.args.probe.shard) =
    ap (λ (q : ℕ). length (row_of c.loop-t.seat.me.0.rows.seen q)) held
    ∙ ap (λ (l : List (List ℕ)). length (row_of l c.args.probe.shard)) seen in
    let some-mark : 0 < c.load-mark.result = search rules in (
      c.requires.right.0,
      rw (ap (λ (m : Me Unit View). m.0.rows.seen) c.load-mark.ensures.2.0 ∙ seen)
          (omega (arith, named, row, some-mark)),
      omega (arith, named, row, some-mark, c.requires.short),
    )
