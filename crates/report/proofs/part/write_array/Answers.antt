use Rattle.std.proofs.Common.{take_all}
use Rattle.report.proofs.Adding.{array_written, ends, token}
use Rattle.report.proofs.part.write_array.Goals as goal

pub returns : goal.returns
returns g c = ends c.end_array.result c.end_array.ensures.ok (λ last.
    array_written (g.P.Part.json c.args.form.numbers) c.args.parts.now
    (token c.in_ok-begin_array.ensures.ok c.begin_array.ensures.room.0)
    (rw (take_all c.loop-part.part-index c.args.parts.now c.loop-part-test.false) at c.loop-part.invariant)
    (token last c.end_array.ensures.room.0))
