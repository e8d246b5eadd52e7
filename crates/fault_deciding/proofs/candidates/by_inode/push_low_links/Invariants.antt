use Rattle.fault_deciding.proofs.ListedSoFar.{AreLowBefore}
use Rattle.fault_deciding.proofs.candidates.by_inode.push_low_links.Given as goal

abbrev pub invariant-loop-inode : goal.invariant-loop-inode
invariant-loop-inode g l = AreLowBefore l.bytes l.most l.inode l.initial.faults.items l.faults.items
