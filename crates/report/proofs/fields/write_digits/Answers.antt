use Rattle.report.proofs.Adding.{ends, keyed, string_json}
use Rattle.report.proofs.fields.write_digits.Goals as goal

pub returns : goal.returns
returns c = ends c.string.result c.string.ensures.ok (λ last. keyed c.in_ok-write_key.ensures
    (string_json {b = c.string.new.self} (rw c.format.ensures.text at last)
    c.string.ensures.room.0))
