use Rattle.fault_deciding.proofs.ListedSoFar.{AreStrict}
use Rattle.fault_deciding.proofs.candidates.by_inode.push_strict.Given as goal

abbrev pub invariant-loop-inode : goal.invariant-loop-inode
invariant-loop-inode g l = AreStrict l.kept l.inode l.initial.faults.items l.faults.items
