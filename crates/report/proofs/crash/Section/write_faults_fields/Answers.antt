use Rattle.report.proofs.Adding.{ends, fields_then}
use Rattle.report.proofs.crash.Section.write_faults_fields.Goals as goal

pub returns : goal.returns
returns c = ends c.write_list.result c.write_list.ensures (λ last.
    rw (← c.self.view_is, ← c.as_slice-faults.ensures.value)
    (fields_then c.in_ok-write_all_numbers.ensures last))
