use Rattle.report.proofs.Adding.{ends, fields_then, object_written}
use Rattle.report.proofs.search.RefusedCountPart.write_json.Goals as goal

pub returns : goal.returns
returns c = ends c.end_object.result c.end_object.ensures (λ last.
    object_written c.in_ok-begin_object.ensures (fields_then (fields_then c.in_ok-write_number.ensures (rw
    c.number-number.ensures at c.in_ok-write_number-2.ensures)) (rw c.text-text.ensures at
    c.in_ok-write_text.ensures)) last)
