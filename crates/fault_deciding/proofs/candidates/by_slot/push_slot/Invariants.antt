use Rattle.fault_deciding.proofs.ListedSoFar.{AreBlocks}
use Rattle.fault_deciding.proofs.candidates.by_slot.push_slot.Given as goal

abbrev pub invariant-loop-before : goal.invariant-loop-before
invariant-loop-before g l = AreBlocks l.bytes.base l.values.low l.values.high l.inode l.slot l.before
    l.initial.faults.items l.faults.items
