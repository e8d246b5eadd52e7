use Rattle.report.proofs.Adding.{ends, fields_then}
use Rattle.report.proofs.crash.Crash.write_set_fields.Goals as goal

pub returns : goal.returns
returns c = ends c.write_all_shows.result c.write_all_shows.ensures (λ last.
    rw (← c.self.view_is) (fields_then c.in_ok-write_set.ensures last))
