use Rattle.report.proofs.Adding.{ends, keyed}
use Rattle.report.proofs.fields.write_words.Goals as goal

pub returns : goal.returns
returns g c = ends c.write_array_of_words.result c.write_array_of_words.ensures (λ last.
    keyed c.in_ok-write_key.ensures last)
