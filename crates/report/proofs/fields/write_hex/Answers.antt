use Rattle.report.proofs.Adding.{ends, string_json}
use Rattle.report.proofs.fields.write_hex.Goals as goal

pub returns : goal.returns
returns c = ends c.string.result c.string.ensures.ok (λ last. string_json {b = c.string.new.self}
    (rw (c.as_str.ensures.value, c.in_ok-digits.ensures) at last) c.string.ensures.room.0)
