use Rattle.report.proofs.Adding.{no_fields}
use Rattle.report.specs.Choices.{rules_field}
use Rattle.report.proofs.choices.Choices.write_rules_field.Goals as goal

pub returns-in-Rules : goal.returns-in-Rules
unfolding rules_field
returns-in-Rules c = rw c.in-Rules.is (rw c.as_slice.ensures.value at c.write_words.ensures)

pub returns-in-Lines : goal.returns-in-Lines
unfolding rules_field
returns-in-Lines c = rw c.in-Lines.is no_fields
