use Rattle.std.proofs.Common.{take_all}
use Rattle.serde_json.specs.Data.{string}
use Rattle.report.proofs.Adding.{array_written, ends, token}
use Rattle.report.proofs.fields.write_array_of_words.Goals as goal

pub returns : goal.returns
returns g c = ends c.end_array.result c.end_array.ensures.ok (λ last.
    array_written (λ x. string (g.W.Word.word x)) c.args.words.now
    (token {b = c.begin_array.new.self} c.in_ok-begin_array.ensures.ok c.begin_array.ensures.room.0)
    (rw (take_all c.loop-word.word-index c.args.words.now c.loop-word-test.false) at c.loop-word.invariant)
    (token {b = c.end_array.new.self} last c.end_array.ensures.room.0))
