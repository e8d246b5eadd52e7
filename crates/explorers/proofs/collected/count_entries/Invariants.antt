use Rattle.std.proofs.Common.{◌≡◌, ◌*◌, ◌≤◌, length, take}
use Rattle.std.specs.List.{concat}
use Rattle.explorers.proofs.collected.count_entries.Given as goal

abbrev pub invariant-loop-shard : goal.invariant-loop-shard
invariant-loop-shard g l = record {
  count : l.total ≡ length (concat (take l.shard l.contents.rows));
  small : l.total ≤ l.shard * 32768;
}
