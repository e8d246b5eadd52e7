use Rattle.workload_search.proofs.Reporting.{AreListedKindsBelow}
use Rattle.workload_search.proofs.found.shown.Given as goal

abbrev pub invariant-loop-i : goal.invariant-loop-i
invariant-loop-i l = AreListedKindsBelow l.kinds l.i l.shown.items
