use Rattle.report.proofs.Adding.{ends, keyed}
use Rattle.report.proofs.fields.write_part.Goals as goal

pub returns : goal.returns
returns g c = ends c.write_json.result c.write_json.ensures (λ last. keyed c.in_ok-write_key.ensures last)
