use Rattle.fault_deciding.proofs.EntriesSoFar.{IsDirectory}
use Rattle.fault_deciding.proofs.candidates.by_entry.push_directory.Given as goal

abbrev pub invariant-loop-k : goal.invariant-loop-k
invariant-loop-k g l = IsDirectory l.bytes l.dir l.k l.initial.faults.items l.faults.items l.initial.most l.most
