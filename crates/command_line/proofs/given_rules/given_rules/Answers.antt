use Rattle.std.proofs.Common.{◌≡◌, ◌∙◌, ◌+◌, List, ap, map, refl, subst, sym, take}
use Rattle.std.proofs.lemmas.List.{take_all}
use Rattle.clap.specs.Walk.{all_of, texts}
use Rattle.clap.specs.Words.{found_of, rows_of}
use Rattle.clap.proofs.WalkLemmas.{raw_values-rows}
use Rattle.crash_model.specs.RuleTexts.{rule_text}
use Rattle.crash_model.specs.declared.rules.Rule.{Rule}
use Rattle.command_line.specs.Given.{AreOnce}
use Rattle.command_line.proofs.Once.{once_more, one_more_word}
use Rattle.command_line.proofs.Read.{texts_got}
use Rattle.command_line.proofs.given_rules.given_rules.Goals as goal

pub loop-word-preserved : goal.loop-word-preserved
loop-word-preserved c =
    let rules = c.loop-word.rules.items in
    let words = c.unwrap_or-words.result.now in
    subst
    (λ (items : List Rule). (map rule_text items ≡ texts (take (c.loop-word.word-index + 1) words)) × AreOnce items)
    (sym c.push.ensures.items) (
      one_more_word rules c.in-Ok.rule words c.loop-word.word-index _ c.loop-word-test.true c.loop-word.invariant.0
          c.in-Ok.ensures.word,
      once_more rules c.in-Ok.rule c.loop-word.invariant.1 c.in-Ok.ensures.new,
    )

pub returns-clause-words : goal.returns-clause-words
returns-clause-words c =
    let f = found_of c.args.matches.now in
    let words = c.unwrap_or-words.result.now in
    c.loop-word.invariant.0 ∙ (ap texts (take_all c.loop-word.word-index words c.loop-word-test.false)
    ∙ texts_got c.get_strs.result _ c.unwrap_or-words.result (all_of c.args.option.now (rows_of f))
    c.unwrap_or-words.ensures refl (c.get_strs.ensures ∙ raw_values-rows f c.args.option.now))
