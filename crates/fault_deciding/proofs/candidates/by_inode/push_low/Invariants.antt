use Rattle.fault_deciding.proofs.ListedSoFar.{AreLow}
use Rattle.fault_deciding.proofs.candidates.by_inode.push_low.Given as goal

abbrev pub invariant-loop-links : goal.invariant-loop-links
invariant-loop-links g l = AreLow l.values.low l.values.high l.inode l.most l.links l.initial.faults.items
    l.faults.items
