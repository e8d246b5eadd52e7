use Rattle.report.proofs.Adding.{keyed, no_fields, true_json}
use Rattle.report.proofs.fields.write_flag.Goals as goal

pub returns-in_ok-boolean : goal.returns-in_ok-boolean
returns-in_ok-boolean c = rw c.if-holds.true
    (keyed c.in_ok-write_key.ensures (true_json c.in_ok-boolean.ensures.ok c.boolean.ensures.room.0))

pub returns-else-holds : goal.returns-else-holds
returns-else-holds c = rw c.if-holds.false no_fields
