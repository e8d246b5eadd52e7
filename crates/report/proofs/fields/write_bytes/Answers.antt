use Rattle.report.proofs.Adding.{ends, keyed}
use Rattle.report.proofs.fields.write_bytes.Goals as goal

pub returns : goal.returns
returns c = ends c.write_hex.result c.write_hex.ensures (λ last. keyed c.in_ok-write_key.ensures last)
