use Rattle.crash_model.specs.Strict.{is_lost}
use Rattle.fs_check.specs.Counted.{AtNoneBelow}
use Rattle.fs_check.proofs.counted.is_none_lost.Given as goal

abbrev pub invariant-loop-inode : goal.invariant-loop-inode
invariant-loop-inode g l = AtNoneBelow l.inode (is_lost l.image l.kept)
