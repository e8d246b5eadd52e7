use Rattle.std.proofs.Common.{◌≡◌, ◌++◌}
use Rattle.crash_model.specs.Lists.{each_below, some_below}
use Rattle.fs_check.specs.TableCounts.{IsTally}
use Rattle.fs_check.specs.References.{dangling_at, led_at}
use Rattle.fs_check.proofs.references.push_dangling.Given as goal

abbrev pub invariant-loop-dir : goal.invariant-loop-dir
invariant-loop-dir g l = record {
  found : l.found.items ≡ l.fn.found.items ++ each_below l.dir (λ dir. some_below 10 (dangling_at l.image dir));
  entry_counts : IsTally 10 (led_at l.image) l.dir 0 l.entry_counts;
}
