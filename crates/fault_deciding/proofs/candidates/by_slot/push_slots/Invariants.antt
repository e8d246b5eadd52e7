use Rattle.fault_deciding.proofs.ListedSoFar.{AreInodes}
use Rattle.fault_deciding.proofs.candidates.by_slot.push_slots.Given as goal

abbrev pub invariant-loop-inode : goal.invariant-loop-inode
invariant-loop-inode g l = AreInodes l.bytes l.inode l.initial.faults.items l.faults.items
