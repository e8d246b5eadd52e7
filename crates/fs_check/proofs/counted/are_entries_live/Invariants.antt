use Rattle.std.proofs.Common.{ℕ, ◌<◌}
use Rattle.crash_model.specs.Faults.{is_dangling}
use Rattle.fs_check.specs.Counted.{AtNoneBelow}
use Rattle.fs_check.proofs.counted.are_entries_live.Given as goal

abbrev pub invariant-loop-dir : goal.invariant-loop-dir
invariant-loop-dir g l = (dir : ℕ) → dir < l.dir → AtNoneBelow 10 (is_dangling l.image dir)
