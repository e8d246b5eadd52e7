use Rattle.std.specs.Prelude.{◌≡◌, ◌≤◌, length}
use Rattle.board_rule.specs.Lists.{row_of}
use Rattle.explorers.specs.Ready.{IsReady}
use Rattle.explorers.proofs.exploration.Exploration.search_shard.Given as goal

abbrev pub invariant-loop-at : goal.invariant-loop-at
invariant-loop-at g l = record {
  ready : IsReady l.self.board.now l.self.space.now g.S.Space.is_own l.mine;
  share : l.mine.seat.share ≡ l.fn.mine.seat.share;
  seen : l.count ≤ length (row_of l.mine.seat.seen l.shard);
}
