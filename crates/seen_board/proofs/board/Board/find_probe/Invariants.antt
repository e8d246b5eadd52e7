use Rattle.seen_board.specs.Clauses.{Sees}
use Rattle.seen_board.proofs.board.Board.find_probe.Given as goal

abbrev pub invariant-loop-t : goal.invariant-loop-t
invariant-loop-t g l = Sees l.initial.seat l.seat
