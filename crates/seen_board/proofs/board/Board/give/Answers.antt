use Rattle.std.proofs.Common.{rules, arith}
use Rattle.board_rule.proofs.LockSteps.{gives}
use Rattle.seen_board.proofs.board.Board.give.Goals as goal

pub store-requires : goal.store-requires
store-requires g c = (
  search rules,
  search rules,
  gives _ _ _ _ _ _ _ (search rules) (search rules) (search rules)
      (search rules) (λ k u owes. absurd (omega (arith, owes, c.seat.invariant.0.2.unfiled))),
)
