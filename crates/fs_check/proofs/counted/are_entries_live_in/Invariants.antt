use Rattle.crash_model.specs.Faults.{is_dangling}
use Rattle.fs_check.specs.Counted.{AtNoneBelow}
use Rattle.fs_check.proofs.counted.are_entries_live_in.Given as goal

abbrev pub invariant-loop-k : goal.invariant-loop-k
invariant-loop-k g l = AtNoneBelow l.k (is_dangling l.image l.dir)
