use Rattle.report.proofs.Adding.{added, ends, then}
use Rattle.report.proofs.found.FoundFaultPart.write.Goals as goal

pub returns : goal.returns
returns c = ends c.write_shows.result c.write_shows.ensures (λ last. then (added c.in_ok-write.ensures.bytes) last)
