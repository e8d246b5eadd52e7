use Rattle.workload_search.proofs.Tallied.{AreKindsAddedBelow}
use Rattle.workload_search.proofs.counts.add_kinds.Given as goal

abbrev pub invariant-loop-i : goal.invariant-loop-i
invariant-loop-i l = AreKindsAddedBelow l.places.items l.firsts l.i l.initial.kinds l.kinds
