use Rattle.std.proofs.Common.{◌+◌, ◌≤◌}
use Rattle.crash_model.specs.declared.fault.Fault.TheVariants.{LowLinks}
use Rattle.fault_deciding.proofs.ListedSoFar.{AreBelow}
use Rattle.fault_deciding.proofs.candidates.by_inode.push_above.Given as goal

abbrev pub invariant-loop-fewer : goal.invariant-loop-fewer
invariant-loop-fewer g l = AreBelow (λ fewer. l.links ≤ fewer) (λ fewer. LowLinks l.inode (fewer + 1) l.links) l.fewer
    l.initial.faults.items l.faults.items
