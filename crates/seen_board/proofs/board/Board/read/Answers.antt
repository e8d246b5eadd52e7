use Rattle.std.proofs.Common.{subst}
use Rattle.seen_board.specs.Clauses.{Gains}
use Rattle.seen_board.specs.Known.{Known}
use Rattle.seen_board.proofs.board.Board.read.Goals as goal

pub returns-in-Right : goal.returns-in-Right
returns-in-Right g c = record {
  right = subst (λ (s : Known). Gains s 1 c.args.shard c.try_read.new.seat)
      c.loop.invariant (c.try_read.ensures.right c.in-Right.is);
}
