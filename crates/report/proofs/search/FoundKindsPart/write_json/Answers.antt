use Rattle.report.proofs.Adding.{ends, fields_then, object_written}
use Rattle.report.proofs.search.FoundKindsPart.write_json.Goals as goal

pub returns : goal.returns
returns c = ends c.end_object.result c.end_object.ensures (λ last.
    object_written c.in_ok-begin_object.ensures (fields_then (fields_then (fields_then (fields_then (fields_then
    c.in_ok-write_first_fields.ensures c.in_ok-write_number.ensures) c.in_ok-write_disk_fields.ensures)
    c.in_ok-write_list.ensures) c.in_ok-write_module_field.ensures) c.in_ok-write_last_fields.ensures)
    last)
