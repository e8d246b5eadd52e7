use Rattle.fs_check.specs.Compared.{AreFound}
use Rattle.fs_check.proofs.atomic.compared_blocks.Given as goal

abbrev pub invariant-loop-inode : goal.invariant-loop-inode
invariant-loop-inode g l = AreFound l.disk l.inode l.compared
