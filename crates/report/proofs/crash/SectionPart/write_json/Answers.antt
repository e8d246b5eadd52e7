use Rattle.report.specs.CrashesJson.{section_json}
use Rattle.report.proofs.Adding.{ends, fields_then, object_written}
use Rattle.report.proofs.Viewed.{json_viewed}
use Rattle.report.proofs.crash.SectionPart.write_json.Goals as goal

pub returns : goal.returns
returns c = ends c.end_object.result c.end_object.ensures (λ last.
    json_viewed (section_json c.args.form.numbers) c.self.view_is (object_written c.in_ok-begin_object.ensures
    (fields_then (fields_then (fields_then (rw (← c.self.view_is) at c.in_ok-write_faults_fields.ensures)
    c.in_ok-write_replay_field.ensures) (rw c.as_slice.ensures.value at c.in_ok-write_set_fields.ensures))
    c.in_ok-write_writes_field.ensures) last))
