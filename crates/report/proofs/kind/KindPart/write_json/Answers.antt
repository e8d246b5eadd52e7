use Rattle.std.proofs.Common.{◌≡◌, ap}
use Rattle.report.specs.Parts.{Section}
use Rattle.report.specs.Searches.{kind_json}
use Rattle.report.proofs.Adding.{ends, fields_then, object_written}
use Rattle.report.proofs.Viewed.{json_viewed}
use Rattle.report.proofs.kind.KindPart.write_json.Goals as goal

pub returns : goal.returns
returns c =
    let crash : c.section.inside.crash ≡ c.self.inside.section.crash = ap (λ (s : Section). s.crash)
    c.section.view_is in
    let faults : c.section.inside.faults.items ≡ c.self.inside.section.faults =
    ap (λ (s : Section). s.faults) c.section.view_is in
    ends c.end_object.result c.end_object.ensures (λ last.
    json_viewed (kind_json c.args.form.numbers) c.self.view_is (object_written c.in_ok-begin_object.ensures
    (fields_then (fields_then (fields_then (fields_then (fields_then (fields_then (fields_then
    c.in_ok-write_faults_fields.ensures (rw c.number-number.ensures at c.in_ok-write_number.ensures))
    (rw c.name-name.ensures at c.in_ok-write_text.ensures)) (rw crash at c.in_ok-write_replay_field.ensures))
    (rw (c.as_slice.ensures.value, crash, faults) at c.in_ok-write_set_fields.ensures))
    (rw c.as_slice-2.ensures.value at c.in_ok-write_words_if_any.ensures)) c.in_ok-write_number-2.ensures)
    (rw crash at c.in_ok-write_writes_field.ensures)) last))
