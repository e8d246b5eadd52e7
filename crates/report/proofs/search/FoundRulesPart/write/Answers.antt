use Rattle.report.proofs.Adding.{ends, then}
use Rattle.report.proofs.search.FoundRulesPart.write.Goals as goal

pub returns : goal.returns
returns c = ends c.write_all-2.result c.write_all-2.ensures (λ last.
    then (then (then c.in_ok-write.ensures c.in_ok-write_count.ensures) c.in_ok-write_all.ensures)
    last)
