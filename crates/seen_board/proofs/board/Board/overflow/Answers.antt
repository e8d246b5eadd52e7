use Rattle.std.proofs.Common.{rules, arith, ◌≡◌, ◌/◌, ◌%◌}
use Rattle.board_rule.proofs.CounterSteps.{overflows}
use Rattle.seen_board.proofs.board.Board.overflow.Goals as goal

pub store-requires : goal.store-requires
store-requires g c = let p = c.seat.inside.seat.me.0.lives.place in let held : c.seat.inside.seat.me.0.rows.held
    ≡ c.args.probe.shard = search rules in let key : c.self.inside.table.shared.key.places ≡ c.args.self.now.places =
    search rules in
    let succ = rw (← c.seat.view_is, ← c.self.view_is) at c.requires.successor in (
      search rules,
      search rules,
      overflows _ _ _ _ _ _ c.args.probe.word (p % 13) (p / 13) (search rules)
          (omega (arith, held, c.requires.probe.0)) (rw held (rw (← c.seat.view_is) at (rw (← key) at c.requires.full)))
          (omega arith) succ.1.0 succ.1.1 (rw held (rw (← c.seat.view_is) at c.requires.absent)),
    )
