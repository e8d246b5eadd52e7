use Rattle.std.proofs.Common.{rules, arith, ap}
use Rattle.board_rule.proofs.Sums.{among}
use Rattle.board_rule.proofs.Refuted.{nowhere, clashes_added}
use Rattle.seen_board.specs.Clauses.{number}
use Rattle.seen_board.proofs.board.Board.refute_two_authors.Goals as goal

pub join_seat-requires : goal.join_seat-requires
join_seat-requires g c = (
  search rules,
  search rules,
  search rules,
  search rules,
  clashes_added _ _ _ _ _ _ _ (number c.args.place) (among _ c.author.inside.seat.me.0.rows.added
      (rw (← c.author.view_is) at c.requires.author.1)) (among _ c.other.inside.seat.me.0.rows.added
      (rw (← c.other.view_is) at c.requires.other.1)),
)

pub load-requires : goal.load-requires
load-requires g c = (
  search rules,
  search rules,
  nowhere
      _ _ _ _ _ _ _ (omega (arith, ap (λ m. m.0.rows.held) c.join_seat.ensures.2)),
)
