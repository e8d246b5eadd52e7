use Rattle.crash_model.specs.Strict.{lacks_block}
use Rattle.fs_check.specs.Counted.{AtNoneBelow}
use Rattle.fs_check.proofs.counted.have_blocks.Given as goal

abbrev pub invariant-loop-inode : goal.invariant-loop-inode
invariant-loop-inode g l = AtNoneBelow l.inode (lacks_block l.image)
