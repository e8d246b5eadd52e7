use Rattle.std.proofs.Common.{◌≡◌}
use Rattle.seen_board.proofs.board.Board.read.Given as goal

abbrev pub invariant-loop : goal.invariant-loop
invariant-loop g l = l.seat ≡ l.initial.seat
