use Rattle.std.proofs.Common.{rules, arith, ap}
use Rattle.board_rule.proofs.Refuted.{nowhere, clashes_right}
use Rattle.seen_board.proofs.board.Board.refute_two_rights.Goals as goal

pub join_seat-requires : goal.join_seat-requires
join_seat-requires g c = (
  search rules,
  search rules,
  search rules,
  search rules,
  clashes_right _ _ _ _ _ _ _ (search rules) (search rules) (search rules),
)

pub load-requires : goal.load-requires
load-requires g c = (
  search rules,
  search rules,
  nowhere
      _ _ _ _ _ _ _ (omega (arith, ap (λ m. m.0.rows.held) c.join_seat.ensures.2)),
)
