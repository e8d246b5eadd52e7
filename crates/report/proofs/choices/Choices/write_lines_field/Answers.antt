use Rattle.report.proofs.Adding.{no_fields}
use Rattle.report.specs.Choices.{lines_field}
use Rattle.report.proofs.choices.Choices.write_lines_field.Goals as goal

pub returns-in-Lines : goal.returns-in-Lines
unfolding lines_field
returns-in-Lines c = rw c.in-Lines.is (rw c.as_slice.ensures.value at c.write_list.ensures)

pub returns-in-Rules : goal.returns-in-Rules
unfolding lines_field
returns-in-Rules c = rw c.in-Rules.is no_fields
