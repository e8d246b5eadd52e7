use Rattle.std.proofs.Common.{subst}
use Rattle.board_rule.specs.Layout.{writer}
use Rattle.seen_board.specs.Clauses.{Gains}
use Rattle.seen_board.specs.Known.{Known}
use Rattle.seen_board.proofs.board.Board.write.Goals as goal

pub returns-in-Right : goal.returns-in-Right
returns-in-Right g c = record {
  right = subst (λ (s : Known). Gains s writer c.args.shard c.try_write.new.seat)
      c.loop.invariant (c.try_write.ensures.right c.in-Right.is);
}
