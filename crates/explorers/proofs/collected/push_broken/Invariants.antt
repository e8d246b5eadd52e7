use Rattle.std.proofs.Common.{◌≡◌, length}
use Rattle.state_space.specs.Counts.{IsListOf}
use Rattle.board_rule.specs.Lists.{row_of}
use Rattle.explorers.specs.Entries.{IsBrokenBefore}
use Rattle.explorers.proofs.collected.push_broken.Given as goal

abbrev pub invariant-loop-at : goal.invariant-loop-at
invariant-loop-at g l = record {
  end : l.at-end ≡ length (row_of l.contents.rows l.shard);
  list : IsListOf (IsBrokenBefore l.contents l.shard l.at) l.broken.items;
}
