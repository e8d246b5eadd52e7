use Rattle.std.proofs.Common.{rules}
use Rattle.board_rule.proofs.CounterSteps.{stops}
use Rattle.seen_board.proofs.board.Board.stop.Goals as goal

pub store-requires : goal.store-requires
store-requires g c = (search rules, search rules, stops _ _ _ _ _ _)
