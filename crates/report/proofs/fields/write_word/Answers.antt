use Rattle.report.proofs.Adding.{ends, string_json}
use Rattle.report.proofs.fields.write_word.Goals as goal

pub returns : goal.returns
returns g c = ends c.string.result c.string.ensures.ok (λ last. string_json {b = c.string.new.self}
    (rw (c.as_str.ensures.value, c.in_ok-write_word.ensures.whole, c.new-text.ensures.bytes)
    at last) c.string.ensures.room.0)
