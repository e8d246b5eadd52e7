use Rattle.std.proofs.Common.{◌≡◌, map, take}
use Rattle.clap.specs.Walk.{texts}
use Rattle.crash_model.specs.RuleTexts.{rule_text}
use Rattle.command_line.specs.Given.{AreOnce}
use Rattle.command_line.proofs.given_rules.given_rules.Given as goal

abbrev pub invariant-loop-word : goal.invariant-loop-word
invariant-loop-word l = (map rule_text l.rules.items ≡ texts (take l.word-index l.words)) × AreOnce l.rules.items
