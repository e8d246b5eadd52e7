use Rattle.report.specs.Explained.{patch_json}
use Rattle.report.proofs.Adding.{ends, fields_then, object_written}
use Rattle.report.proofs.Viewed.{json_viewed}
use Rattle.report.proofs.explained.ExplainedPatchPart.write_json.Goals as goal

pub returns : goal.returns
returns c = ends c.end_object.result c.end_object.ensures (λ last.
    json_viewed (patch_json c.args.form.numbers) c.self.view_is (object_written c.in_ok-begin_object.ensures
    (fields_then (fields_then (fields_then
    (fields_then (fields_then (fields_then (fields_then (rw c.as_slice-after.ensures.value at
    c.in_ok-write_list.ensures) (rw c.from.ensures at c.in_ok-write_number.ensures))
    c.in_ok-write_number-2.ensures) (rw c.as_slice.ensures.value at c.in_ok-write_bytes.ensures)) (rw
    c.from-2.ensures at c.in_ok-write_number-3.ensures)) (rw c.name.ensures at c.in_ok-write_text.ensures))
    c.in_ok-write_word_field.ensures) (rw c.as_slice-2.ensures.value at c.in_ok-write_bytes-2.ensures))
    last))
