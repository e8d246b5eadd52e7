use Rattle.report.specs.CrashesJson.{first_json}
use Rattle.report.proofs.Adding.{ends, fields_then, object_written}
use Rattle.report.proofs.Viewed.{json_viewed}
use Rattle.report.proofs.crash.FirstCrashPart.write_json.Goals as goal

pub returns : goal.returns
returns c = ends c.end_object.result c.end_object.ensures (λ last.
    json_viewed (first_json c.args.form.numbers) c.self.view_is (object_written c.in_ok-begin_object.ensures
    (fields_then (fields_then (fields_then (fields_then c.in_ok-write_part.ensures
    c.in_ok-write_fault_numbers.ensures) c.in_ok-write_replay_field.ensures)
    (rw c.from_ref.ensures.value at c.in_ok-write_set_fields.ensures)) c.in_ok-write_writes_field.ensures) last))
