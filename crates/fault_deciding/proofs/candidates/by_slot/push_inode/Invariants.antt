use Rattle.fault_deciding.proofs.ListedSoFar.{AreSlots}
use Rattle.fault_deciding.proofs.candidates.by_slot.push_inode.Given as goal

abbrev pub invariant-loop-slot : goal.invariant-loop-slot
invariant-loop-slot g l = AreSlots l.bytes l.inode l.slot l.initial.faults.items l.faults.items
