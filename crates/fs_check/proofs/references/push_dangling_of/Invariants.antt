use Rattle.std.proofs.Common.{◌≡◌, ◌++◌, length}
use Rattle.crash_model.specs.Lists.{some_below}
use Rattle.fs_check.specs.TableCounts.{IsTally}
use Rattle.fs_check.specs.References.{dangling_at, led_at}
use Rattle.fs_check.proofs.references.push_dangling_of.Given as goal

abbrev pub invariant-loop-k : goal.invariant-loop-k
invariant-loop-k g l = record {
  found : l.found.items ≡ l.fn.found.items ++ some_below l.k (dangling_at l.image l.dir);
  size : length l.entry_counts ≡ 16;
  entry_counts : IsTally 10 (led_at l.image) l.dir l.k l.entry_counts;
}
