use Rattle.std.specs.Prelude.{◌≡◌}
use Rattle.explorers.specs.Ready.{IsReady}
use Rattle.explorers.proofs.exploration.Exploration.search.Given as goal

abbrev pub invariant-loop-shard : goal.invariant-loop-shard
invariant-loop-shard g l = record {
  ready : IsReady l.self.board.now l.self.space.now g.S.Space.is_own l.mine;
  share : l.mine.seat.share ≡ l.fn.mine.seat.share;
}
