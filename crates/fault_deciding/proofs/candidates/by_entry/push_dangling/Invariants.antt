use Rattle.std.proofs.Common.{◌+◌}
use Rattle.crash_model.specs.declared.fault.Fault.TheVariants.{Dangling}
use Rattle.known_bytes.specs.Family.{HasValue}
use Rattle.fault_deciding.proofs.ListedSoFar.{AreBelow}
use Rattle.fault_deciding.proofs.candidates.by_entry.push_dangling.Given as goal

abbrev pub invariant-loop-inode : goal.invariant-loop-inode
invariant-loop-inode g l = AreBelow (λ i. HasValue l.values.low l.values.high (i + 1)) (λ i. Dangling l.dir l.k i)
    l.inode
    l.initial.faults.items l.faults.items
