use Rattle.workload_search.proofs.Tallied.{AreKindsJoinedBelow}
use Rattle.workload_search.proofs.counts.join_kinds.Given as goal

abbrev pub invariant-loop-i : goal.invariant-loop-i
invariant-loop-i l = AreKindsJoinedBelow l.later l.i l.initial.kinds l.kinds
