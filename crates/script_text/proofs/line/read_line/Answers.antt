use Rattle.std.proofs.Common.{List, ℕ, map, ap, sym, subst, ◌∙◌}
use Rattle.std.specs.Str.{IsUtf8}
use Rattle.std.proofs.lemmas.Result.{MatchResult-weaker}
use Rattle.crash_model.specs.Script.{IsSkipped}
use Rattle.crash_model.specs.ScriptRefusals.{AreWords}
use Rattle.script_text.specs.declared.line.LineFault.TheVariants.{BadLine}
use Rattle.script_text.specs.Words.{SaysLine, IsLineFault}
use Rattle.script_text.proofs.Forms.{not_so, too_many_words, no_verb, refused_operands, says_line}
use Rattle.script_text.proofs.Pairs.{first_and_others}
use Rattle.script_text.proofs.line.read_line.Goals as goal

pub returns-in_default-words : goal.returns-in_default-words
returns-in_default-words c =
    let same = c.in-Ok.ensures.cases.0 in
    let utf8 = subst IsUtf8 (sym same) c.in-Ok.ensures.cases.1 in
    let says : ¬ (IsSkipped c.in-Ok.text.now) = not_so c.says_nothing.result c.says_nothing.ensures
    c.if-says_nothing.false in
    subst (λ (t : List ℕ). IsLineFault t BadLine) same (too_many_words c.in-Ok.text.now utf8 says
    c.in_default-words.ensures)

pub returns-in_default-read : goal.returns-in_default-read
returns-in_default-read c =
    let same = c.in-Ok.ensures.cases.0 in
    let utf8 = subst IsUtf8 (sym same) c.in-Ok.ensures.cases.1 in
    let says : ¬ (IsSkipped c.in-Ok.text.now) = not_so c.says_nothing.result c.says_nothing.ensures
    c.if-says_nothing.false in
    let parts = first_and_others c.as_slice.result.now _ c.in-len1-up.len_at_least in
    let cut = subst (AreWords c.in-Ok.text.now) (ap (map (λ word. word.now)) (sym c.as_slice.ensures.value) ∙ parts)
    c.in-Some.ensures in
    subst (λ (t : List ℕ). IsLineFault t BadLine) same (no_verb c.in-Ok.text.now _ _ utf8 says cut
    c.in_default-read.ensures)

pub returns : goal.returns
returns c =
    let same = c.in-Ok.ensures.cases.0 in
    let utf8 = subst IsUtf8 (sym same) c.in-Ok.ensures.cases.1 in
    let says : ¬ (IsSkipped c.in-Ok.text.now) = not_so c.says_nothing.result c.says_nothing.ensures
    c.if-says_nothing.false in
    let parts = first_and_others c.as_slice.result.now _ c.in-len1-up.len_at_least in
    let cut = subst (AreWords c.in-Ok.text.now) (ap (map (λ word. word.now)) (sym c.as_slice.ensures.value) ∙ parts)
    c.in-Some.ensures in
    let spelt = c.in-Some-read.ensures in
    MatchResult-weaker c.line.result c.line.ensures
    (λ line ok. subst (λ (t : List ℕ). SaysLine t line) same (says_line c.in-Ok.text.now _ line cut (rw spelt ok)))
    (λ why fault. subst (λ (t : List ℕ). IsLineFault t why) same
    (refused_operands c.in-Ok.text.now _ _ c.in-Some-read.verb why utf8 says cut spelt fault))
