use Rattle.std.proofs.Common.{rules}
use Rattle.board_rule.proofs.LockSteps.{leaves}
use Rattle.seen_board.proofs.board.Board.leave.Goals as goal

pub fetch_sub-requires : goal.fetch_sub-requires
fetch_sub-requires g c = (
  search rules,
  search rules,
  leaves _ _ _ _ _ _ _ (search rules) (search rules) (search rules)
      (search rules) (search rules),
)
