use Rattle.report.proofs.Adding.{ends, keyed}
use Rattle.report.proofs.fields.write_list.Goals as goal

pub returns : goal.returns
returns g c = ends c.write_array.result c.write_array.ensures (λ last. keyed c.in_ok-write_key.ensures last)
