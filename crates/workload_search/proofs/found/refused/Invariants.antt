use Rattle.workload_search.proofs.Reporting.{AreListedReasonsBelow}
use Rattle.workload_search.proofs.found.refused.Given as goal

abbrev pub invariant-loop-i : goal.invariant-loop-i
invariant-loop-i l = AreListedReasonsBelow l.counts l.i l.refused.items
