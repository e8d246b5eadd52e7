use Rattle.fault_deciding.proofs.EntriesSoFar.{AreEntries}
use Rattle.fault_deciding.proofs.candidates.by_entry.push_entries.Given as goal

abbrev pub invariant-loop-dir : goal.invariant-loop-dir
invariant-loop-dir g l = AreEntries l.bytes l.dir l.initial.faults.items l.faults.items l.most
