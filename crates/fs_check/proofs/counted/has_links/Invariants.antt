use Rattle.crash_model.specs.Faults.{has_low_links}
use Rattle.fs_check.specs.Counted.{AtNoneBelow}
use Rattle.fs_check.proofs.counted.has_links.Given as goal

abbrev pub invariant-loop-inode : goal.invariant-loop-inode
invariant-loop-inode g l = AtNoneBelow l.inode (has_low_links l.image)
