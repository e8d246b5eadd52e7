use Rattle.state_space.specs.Reach.{IsReached}
use Rattle.seen_board.proofs.board.Board.entry.Given as goal

abbrev pub ghosts-low_half : goal.ghosts-low_half
ghosts-low_half g a = record {
  holds_of = IsReached (g.S.Space.successors a.self.now.space)
      (g.S.Space.initial a.self.now.space);
}
