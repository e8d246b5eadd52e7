use Rattle.serde_json.specs.Data.{string}
use Rattle.traced_patches.specs.Reasons.{reason_text}
use Rattle.report.proofs.Adding.{ends, fields_then, mapped_list, object_written}
use Rattle.report.proofs.explained.DependencyPart.write_json.Goals as goal

pub returns : goal.returns
returns c = ends c.end_object.result c.end_object.ensures (λ last.
    rw (← c.self.view_is) (object_written c.in_ok-begin_object.ensures (fields_then c.in_ok-write_number.ensures
    (rw (c.as_slice.ensures.value, mapped_list string reason_text c.self.inside.reasons.items) at
    c.in_ok-write_words.ensures)) last))
