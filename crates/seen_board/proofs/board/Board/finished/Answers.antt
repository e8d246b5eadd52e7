use Rattle.std.proofs.Common.{rules}
use Rattle.board_rule.proofs.CounterSteps.{ends}
use Rattle.seen_board.proofs.board.Board.finished.Goals as goal

pub load-requires : goal.load-requires
load-requires g c = (search rules, search rules, ends _ _ _ _ _ _)
