use Rattle.std.proofs.Common.{take_all}
use Rattle.std.proofs.lemmas.Bool.{not-true, not-false}
use Rattle.report.specs.FaultsJson.{fault_json}
use Rattle.report.specs.declared.found.FoundFault.{FoundFault}
use Rattle.report.proofs.Adding.{array_written, ends, keyed, no_fields, token}
use Rattle.report.proofs.found.write_all_numbers.Goals as goal

pub returns-then-not-form : goal.returns-then-not-form
returns-then-not-form c = rw (not-true c.args.form.numbers c.if-not-form.true) no_fields

pub returns : goal.returns
returns c = ends c.end_array.result c.end_array.ensures.ok (λ last.
    rw (not-false c.args.form.numbers c.if-not-form.false) (keyed c.in_ok-write_key.ensures
    (array_written (λ (f : FoundFault). fault_json f.fault) c.args.found.now
    (token {b = c.begin_array.new.self} c.in_ok-begin_array.ensures.ok c.begin_array.ensures.room.0)
    (rw (take_all c.loop-one.one-index c.args.found.now c.loop-one-test.false) at c.loop-one.invariant)
    (token {b = c.end_array.new.self} last c.end_array.ensures.room.0))))
