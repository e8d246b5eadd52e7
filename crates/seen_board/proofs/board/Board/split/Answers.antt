use Rattle.std.proofs.Common.{rules}
use Rattle.board_rule.proofs.Seats.{splits}
use Rattle.seen_board.proofs.board.Board.split.Goals as goal

pub split_seat-requires : goal.split_seat-requires
split_seat-requires g c = (search rules, search rules, splits _ _ _ _ _)
