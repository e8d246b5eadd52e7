use Rattle.std.proofs.Common.{rules, arith, ap}
use Rattle.board_rule.proofs.Refuted.{nowhere, clashes_claim}
use Rattle.seen_board.proofs.AfterClaims.{claim_weighs}
use Rattle.seen_board.proofs.board.Board.refute_two_claims.Goals as goal

pub join_seat-requires : goal.join_seat-requires
join_seat-requires g c = (
  search rules,
  search rules,
  search rules,
  search rules,
  clashes_claim _ _ _ _ _ _ _ c.args.place.shard c.args.place.at c.requires.place
      (claim_weighs c.claiming.inside.seat.table_id c.claiming.inside.seat.me.0 c.args.place
      (rw (← c.claiming.view_is) at c.requires.claiming.1))
      (claim_weighs c.other.inside.seat.table_id c.other.inside.seat.me.0 c.args.place
      (rw (← c.other.view_is) at c.requires.other.1)),
)

pub load-requires : goal.load-requires
load-requires g c = (
  search rules,
  search rules,
  nowhere
      _ _ _ _ _ _ _ (omega (arith, ap (λ m. m.0.rows.held) c.join_seat.ensures.2)),
)
