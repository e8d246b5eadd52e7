use Rattle.report.proofs.Adding.{ends, keyed}
use Rattle.report.proofs.fields.write_word_field.Goals as goal

pub returns : goal.returns
returns g c = ends c.write_word.result c.write_word.ensures (λ last. keyed c.in_ok-write_key.ensures last)
