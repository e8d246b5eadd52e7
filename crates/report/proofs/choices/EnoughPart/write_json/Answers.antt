use Rattle.report.proofs.Adding.{ends, fields_then, no_fields, object_written}
use Rattle.report.proofs.choices.EnoughPart.write_json.Goals as goal
use Rattle.report.proofs.choices.EnoughPart.write_json.Goals.{in-Some+in_ok-write_part, in_default}

pub returns : goal.returns
returns g c = ends c.end_object.result c.end_object.ensures (λ last.
    object_written c.in_ok-begin_object.ensures (fields_then (fields_then (fields_then (fields_then (fields_then
    (fields_then (fields_then (fields_then c.in_ok-write_first_fields.ensures c.in_ok-write_digits.ensures)
    c.in_ok-write_checker_fields.ensures) c.in_ok-write_list.ensures) (elim c.match-self.branch [
      | in-Some+in_ok-write_part w ↦ rw (w.out-is, w.in-Some.is) w.in_ok-write_part.ensures
      | in_default w ↦ rw (w.out-is, w.in_default.is) no_fields
    ]))
    c.in_ok-write_disk_fields.ensures) c.in_ok-write_module_field.ensures) c.in_ok-write_list-2.ensures)
    c.in_ok-write_last_fields.ensures) last)
