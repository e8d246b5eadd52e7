use Rattle.std.proofs.Common.{◌≡◌, length}
use Rattle.fs_check.specs.References.{led_at}
use Rattle.fs_check.specs.TableCounts.{IsTally}
use Rattle.fs_check.proofs.counted.count_entries_of.Given as goal

abbrev pub invariant-loop-k : goal.invariant-loop-k
invariant-loop-k g l = record {
  size : length l.entry_counts ≡ 16;
  entry_counts : IsTally 10 (led_at l.image) l.dir l.k l.entry_counts;
}
