use Rattle.report.proofs.Adding.{ends, then}
use Rattle.report.proofs.reports.FailingSetsPart.write.Goals as goal

pub returns : goal.returns
returns g c = ends c.write_all.result c.write_all.ensures (λ last.
    then (then (then c.in_ok-write.ensures c.in_ok-write_count.ensures) c.in_ok-write_explained.ensures)
    last)
