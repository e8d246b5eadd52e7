use Rattle.report.proofs.Adding.{ends, keyed}
use Rattle.report.proofs.fields.write_number.Goals as goal

pub returns : goal.returns
returns c = ends c.write_natural.result c.write_natural.ensures (λ last. keyed c.in_ok-write_key.ensures last)
