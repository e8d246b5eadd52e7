use Rattle.std.proofs.Common.{rules}
use Rattle.board_rule.proofs.LockSteps.{peeks}
use Rattle.seen_board.proofs.board.Board.stopped.Goals as goal

pub load-requires : goal.load-requires
load-requires g c = (search rules, search rules, peeks _ _ _ _ _ _ _)
