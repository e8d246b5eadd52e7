use Rattle.report.proofs.Adding.{ends, fields_then}
use Rattle.report.specs.HeadJson.{rules_fields}
use Rattle.report.proofs.head.write_rules_fields.Goals as goal

pub returns : goal.returns
unfolding rules_fields
returns c = ends c.write_words_if_any-2.result c.write_words_if_any-2.ensures (λ last.
    fields_then (fields_then c.in_ok-write_flag.ensures (rw (c.as_slice.ensures.value, c.put_in.ensures) at
    c.in_ok-write_words_if_any.ensures)) (rw (c.as_slice-2.ensures.value, c.taken_out.ensures) at
    last))
