use Rattle.std.proofs.Common.{sym, ◌∙◌}
use Rattle.std.proofs.lemmas.Slice.Eq.{bytes_eq-Decides}
use Rattle.script_text.proofs.Pairs.{one_word}
use Rattle.script_text.proofs.operands.target.Goals as goal

pub returns-then-eq : goal.returns-then-eq
returns-then-eq c = let is = (bytes_eq-Decides _ _).0 (sym c.eq.ensures ∙ c.if-eq.true) in
    (tt, one_word c.args.operands.now _ _ c.in-len1.len_at_least c.in-len1.len_below is)
