use Rattle.std.proofs.Common.{Some, None, codes}
use Rattle.std.proofs.lemmas.Str.Pattern.{split_text_parts}
use Rattle.crash_model.proofs.RuleTexts.{needs_colon, needs_later, needs_earlier}
use Rattle.crash_model.proofs.rules.Rule.read.Goals as goal

pub returns-in_err-later : goal.returns-in_err-later
returns-in_err-later c =
    rw c.from_residual.ensures (needs_colon c.args.text.now
    (split_text_parts (codes ":") c.args.text.now None c.in_err-later.ensures.cases))

pub returns-in_err-read : goal.returns-in_err-read
returns-in_err-read c =
    let cut = split_text_parts (codes ":") c.args.text.now (Some (c.in_ok-later.later, c.in_ok-later.rest))
    c.in_ok-later.ensures.cases in
    rw c.from_residual-in_err-read.ensures (needs_later c.args.text.now c.in_ok-later.later.now c.in_ok-later.rest.now
    cut c.in_err-read.ensures)

pub returns-in_err-read-2 : goal.returns-in_err-read-2
returns-in_err-read-2 c =
    let cut = split_text_parts (codes ":") c.args.text.now (Some (c.in_ok-later.later, c.in_ok-later.rest))
    c.in_ok-later.ensures.cases in
    rw c.from_residual-in_err-read-2.ensures (needs_earlier c.args.text.now c.in_ok-later.later.now
    c.in_ok-later.rest.now cut c.read-scope.result.0 c.read-scope.result.1.now c.read-scope.ensures.scope
    c.read-scope.ensures.same c.in_err-read-2.ensures)
