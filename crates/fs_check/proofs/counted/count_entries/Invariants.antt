use Rattle.fs_check.specs.References.{led_at}
use Rattle.fs_check.specs.TableCounts.{IsTally}
use Rattle.fs_check.proofs.counted.count_entries.Given as goal

abbrev pub invariant-loop-dir : goal.invariant-loop-dir
invariant-loop-dir g l = IsTally 10 (led_at l.image) l.dir 0 l.entry_counts
