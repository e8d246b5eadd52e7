use Rattle.report.proofs.Adding.{ends, fields_then}
use Rattle.report.specs.ReportsJson.{first_fields}
use Rattle.report.proofs.graph.Head.write_first_fields.Goals as goal

pub returns : goal.returns
unfolding first_fields
returns g c = ends c.write_base_field.result c.write_base_field.ensures (λ last.
    fields_then c.in_ok-write_flag.ensures last)
