use Rattle.std.proofs.Common.{rules}
use Rattle.board_rule.proofs.RowSteps.{glances_low}
use Rattle.seen_board.proofs.board.Board.low_half.Goals as goal

pub load-requires : goal.load-requires
load-requires g c = (
  search rules,
  search rules,
  glances_low _ _ _ g.F.EntryFact.holds_of
      _ _ _ _ (rw (← c.self.view_is) at c.requires.fact),
)

pub returns-clause-fact : goal.returns-clause-fact
returns-clause-fact g c = (c.load.ensures.2.1 c.args.shard c.args.at c.low.ensures c.requires.seen.0
    c.requires.seen.1).1
