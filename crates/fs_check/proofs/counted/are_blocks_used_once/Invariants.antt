use Rattle.crash_model.specs.Faults.{is_twice}
use Rattle.fs_check.specs.Counted.{AtNoneBelow}
use Rattle.fs_check.proofs.counted.are_blocks_used_once.Given as goal

abbrev pub invariant-loop-block : goal.invariant-loop-block
invariant-loop-block g l = AtNoneBelow l.block (is_twice l.image)
