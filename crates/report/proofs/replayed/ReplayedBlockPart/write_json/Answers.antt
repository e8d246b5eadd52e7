use Rattle.report.proofs.Adding.{ends, fields_then, object_written}
use Rattle.report.proofs.replayed.ReplayedBlockPart.write_json.Goals as goal

pub returns : goal.returns
returns c = ends c.end_object.result c.end_object.ensures (λ last. object_written c.in_ok-begin_object.ensures
    (fields_then (rw c.from.ensures at c.in_ok-write_number.ensures)
    (rw c.as_slice.ensures at c.in_ok-write_bytes.ensures)) last)
