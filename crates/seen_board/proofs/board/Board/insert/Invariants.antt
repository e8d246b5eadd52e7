use Rattle.seen_board.specs.Inserts.{Returns}
use Rattle.seen_board.proofs.board.Board.insert.Given as goal

abbrev pub invariant-loop : goal.invariant-loop
invariant-loop g l = Returns l.initial.seat l.seat
