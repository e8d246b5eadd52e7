use Rattle.report.proofs.Adding.{ends, fields_then}
use Rattle.report.specs.Searches.{search_last}
use Rattle.report.proofs.search.SearchHead.write_last_fields.Goals as goal

pub returns : goal.returns
unfolding search_last
returns c = ends c.write_number-3.result c.write_number-3.ensures (λ last.
    fields_then (fields_then (fields_then (fields_then (fields_then c.in_ok-write_number.ensures (rw
    c.as_slice.ensures.value at c.in_ok-write_list.ensures)) c.in_ok-write_number-2.ensures)
    c.in_ok-write_flag.ensures) c.in_ok-write_rules_fields.ensures) last)
