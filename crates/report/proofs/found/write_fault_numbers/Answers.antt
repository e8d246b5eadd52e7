use Rattle.report.proofs.Adding.{keyed, no_fields}
use Rattle.report.proofs.found.write_fault_numbers.Goals as goal

pub returns-in_ok-write_fault : goal.returns-in_ok-write_fault
returns-in_ok-write_fault c = rw c.if-form.true (keyed c.in_ok-write_key.ensures c.in_ok-write_fault.ensures)

pub returns-else-form : goal.returns-else-form
returns-else-form c = rw c.if-form.false no_fields
