use Rattle.std.proofs.lemmas.Bool.{not-true, not-false}
use Rattle.report.proofs.Adding.{ends, fields_then, keyed, no_fields}
use Rattle.report.specs.HeadJson.{disk_fields}
use Rattle.report.proofs.head.write_disk_fields.Goals as goal

pub returns-then-not-form : goal.returns-then-not-form
unfolding disk_fields
returns-then-not-form c = ends c.write_flag.result c.write_flag.ensures (λ last.
    rw (not-true c.args.form.numbers c.if-not-form.true) (fields_then (fields_then no_fields last) no_fields))

pub returns : goal.returns
unfolding disk_fields
returns c = ends c.write_numbers.result c.write_numbers.ensures (λ last.
    rw (not-false c.args.form.numbers c.if-not-form.false)
    (fields_then (fields_then c.in_ok-write_number.ensures c.in_ok-write_flag.ensures)
    (keyed c.in_ok-write_key.ensures last)))
