use Rattle.std.proofs.Common.{length, sym, ◌∙◌}
use Rattle.std.proofs.lemmas.Bool.{eqb-true, eqb-false}
use Rattle.report.proofs.Adding.{ends, none_listed, some_listed}
use Rattle.report.proofs.fields.write_words_if_any.Goals as goal

pub returns-then-is_empty : goal.returns-then-is_empty
returns-then-is_empty g c =
    none_listed c.args.key.now g.W.Word.word c.args.words.now
    (eqb-true (length c.args.words.now) 0 (sym c.is_empty.ensures ∙ c.if-is_empty.true))

pub returns : goal.returns
returns g c = ends c.write_words.result c.write_words.ensures (λ last.
    some_listed c.args.key.now g.W.Word.word c.args.words.now
    (eqb-false (length c.args.words.now) 0 (sym c.is_empty.ensures ∙ c.if-is_empty.false)) last)
