-- The rules that a command line gives.
use Rattle.std.specs.Prelude.{◌≡◌, List, [], true, false, unwrap_or}
use Rattle.std.specs.List.{All, AllPairs}
use Rattle.clap.specs.Words.{Row, Text, all_of}
use Rattle.crash_model.specs.Rules.{rules_of}
use Rattle.crash_model.specs.ChosenRules.{has_rule, is_same_rule}
use Rattle.crash_model.specs.declared.rules.Rule.{Rule}
use Rattle.crash_model.specs.declared.settings.Settings.{Settings}

-- the words that an option is given, in their order
abbrev pub words_said : Text → List Row → List Text
words_said option rows = unwrap_or (all_of option rows) []

-- no rule is given twice
abbrev pub AreOnce : List Rule → Type 0
AreOnce rules = AllPairs (λ one other. is_same_rule other one ≡ false) rules

abbrev pub AreAllIn : List Rule → List Rule → Type 0
AreAllIn others rules = All (λ rule. has_rule others rule ≡ true) rules

abbrev pub AreNoneIn : List Rule → List Rule → Type 0
AreNoneIn others rules = All (λ rule. has_rule others rule ≡ false) rules

-- each rule to take out is one of the module's, none of them is to be put in, and none is given twice
pub record AreLawful (settings : Settings) : Type 0 where
  pub known : AreAllIn (rules_of settings.«module») settings.without.items
  pub apart : AreNoneIn settings.without.items settings.with.items
  pub once : AreOnce settings.without.items × AreOnce settings.with.items
