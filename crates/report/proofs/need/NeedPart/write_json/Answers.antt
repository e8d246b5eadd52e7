use Rattle.std.proofs.Common.{◌≡◌, ap}
use Rattle.report.specs.Choices.{need_json}
use Rattle.report.specs.Found.{FirstCrash}
use Rattle.report.proofs.Adding.{ends, fields_then, object_written}
use Rattle.report.proofs.Viewed.{json_viewed}
use Rattle.report.proofs.need.NeedPart.write_json.Goals as goal

pub returns : goal.returns
returns c =
    let fault : c.first.inside.fault ≡ c.self.inside.first.fault = ap (λ (f : FirstCrash). f.fault) c.first.view_is in
    let crash : c.first.inside.crash ≡ c.self.inside.first.crash = ap (λ (f : FirstCrash). f.crash) c.first.view_is in
    ends c.end_object.result c.end_object.ensures (λ last.
    json_viewed (need_json c.args.form.numbers) c.self.view_is (object_written c.in_ok-begin_object.ensures
    (fields_then (fields_then (fields_then (fields_then (fields_then (fields_then (fields_then
    (rw fault at c.in_ok-write_part.ensures) (rw fault at c.in_ok-write_fault_numbers.ensures))
    (rw crash at c.in_ok-write_replay_field.ensures)) c.in_ok-write_rules_field.ensures)
    (rw (c.from_ref.ensures.value, crash, fault) at c.in_ok-write_set_fields.ensures))
    (rw c.as_slice.ensures.value at c.in_ok-write_words_if_any.ensures)) c.in_ok-write_lines_field.ensures)
    (rw crash at c.in_ok-write_writes_field.ensures)) last))
