use Rattle.report.proofs.Adding.{ends, fields_then, object_written}
use Rattle.report.proofs.explained.PromisePart.write_json.Goals as goal

pub returns : goal.returns
returns g c = ends c.end_object.result c.end_object.ensures (λ last.
    rw (← c.self.view_is) (object_written c.in_ok-begin_object.ensures (fields_then (fields_then (fields_then
    (fields_then c.in_ok-write_set.ensures (rw (
      c.as_slice.ensures.value,
      c.word_of-word.ensures,
      ←
          c.self.view_is,
    ) at c.in_ok-write_words.ensures)) c.in_ok-write_number.ensures) (rw
    c.as_slice-2.ensures.value at c.in_ok-write_words-2.ensures)) (rw c.as_slice-3.ensures.value at
    c.in_ok-write_words-3.ensures)) last))
