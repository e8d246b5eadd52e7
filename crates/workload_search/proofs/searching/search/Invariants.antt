use Rattle.workload_search.proofs.Kept.{IsKeptTo}
use Rattle.workload_search.proofs.searching.search.Given as goal

abbrev pub invariant-loop-made : goal.invariant-loop-made
invariant-loop-made g l =
    IsKeptTo (g.J.Judge.search l.judge) l.pool l.made l.keeps l.tally l.passing.items l.beginnings.items
