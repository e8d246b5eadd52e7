use Rattle.report.proofs.Adding.{ends, fields_then}
use Rattle.report.specs.Searches.{search_first}
use Rattle.report.proofs.search.SearchHead.write_first_fields.Goals as goal

pub returns : goal.returns
unfolding search_first
returns c = ends c.write_checker_fields.result c.write_checker_fields.ensures (λ last.
    fields_then c.in_ok-write_flag.ensures last)
