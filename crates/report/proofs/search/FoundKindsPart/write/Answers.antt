use Rattle.report.proofs.Adding.{ends, then}
use Rattle.report.proofs.search.FoundKindsPart.write.Goals as goal

pub returns : goal.returns
returns c = ends c.write_all.result c.write_all.ensures (λ last. then c.in_ok-write.ensures last)
