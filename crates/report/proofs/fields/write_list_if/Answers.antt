use Rattle.report.proofs.Adding.{no_fields}
use Rattle.report.proofs.fields.write_list_if.Goals as goal

pub returns-in_ok-write_list : goal.returns-in_ok-write_list
returns-in_ok-write_list g c = rw c.if-holds.true c.in_ok-write_list.ensures

pub returns-else-holds : goal.returns-else-holds
returns-else-holds g c = rw c.if-holds.false no_fields
