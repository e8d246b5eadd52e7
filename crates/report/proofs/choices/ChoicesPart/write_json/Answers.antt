use Rattle.report.proofs.choices.ChoicesPart.write_json.Goals as goal

pub returns-in-Rules : goal.returns-in-Rules
returns-in-Rules c = rw c.in-Rules.is (rw c.as_slice.ensures.value at c.write_array_of_words.ensures)

pub returns-in-Lines : goal.returns-in-Lines
returns-in-Lines c = rw c.in-Lines.is (rw c.as_slice-in-Lines.ensures.value at c.write_array.ensures)
