use Rattle.std.proofs.Common.{arith}
use Rattle.report.proofs.Numbers.{is_number}
use Rattle.report.proofs.Adding.{ends, number_json}
use Rattle.report.proofs.fields.write_natural.Goals as goal

pub number-requires : goal.number-requires
number-requires c = rw c.format.ensures.text (is_number c.args.n (omega (arith, c.ranges.n.fits)))

pub returns : goal.returns
returns c = ends c.number.result c.number.ensures.ok (λ last. number_json {b = c.number.new.self} {n = c.args.n}
    (rw c.format.ensures.text at last) c.number.ensures.room.0)
