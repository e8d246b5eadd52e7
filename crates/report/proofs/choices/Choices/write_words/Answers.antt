use Rattle.report.specs.Choices.{choices_words}
use Rattle.report.proofs.choices.Choices.write_words.Goals as goal

pub returns-in-Rules : goal.returns-in-Rules
unfolding choices_words
returns-in-Rules c = rw c.in-Rules.is (rw c.as_slice.ensures.value at c.write_spaced.ensures)

pub returns-in-Lines : goal.returns-in-Lines
unfolding choices_words
returns-in-Lines c = rw c.in-Lines.is (rw c.as_slice-in-Lines.ensures.value at c.write_spaced-in-Lines.ensures)
