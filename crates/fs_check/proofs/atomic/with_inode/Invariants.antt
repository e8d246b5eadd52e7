use Rattle.fs_check.specs.Compared.{AreWithSlots}
use Rattle.fs_check.proofs.atomic.with_inode.Given as goal

abbrev pub invariant-loop-slot : goal.invariant-loop-slot
invariant-loop-slot g l = AreWithSlots l.disk l.inode l.slot l.blocks l.all
