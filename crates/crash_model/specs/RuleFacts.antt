-- Facts about rules and lists of rules. No answer of a run depends on them.
use Rattle.std.specs.Prelude.{◌≢◌, ℕ, List, ◌++◌}
use Rattle.std.specs.List.{All, Contains}
use Rattle.crash_model.specs.RuleTexts.{rule_part_text, scope_text, rule_text}
use Rattle.crash_model.specs.declared.rules.RulePart.{RulePart}
use Rattle.crash_model.specs.declared.rules.Scope.TheVariants.{Previous, Before}
use Rattle.crash_model.specs.declared.rules.Rule.{Rule}

-- the text is no part of a rule
abbrev pub IsNoRulePart : List ℕ → Type 0
IsNoRulePart text = (part : RulePart) → text ≢ rule_part_text part

-- the text is no rule
abbrev pub IsNoRule : List ℕ → Type 0
IsNoRule text = (rule : Rule) → text ≢ rule_text rule

-- no scope but that of one operation is written at the text's beginning
abbrev pub HasNoScope : List ℕ → Type 0
HasNoScope text = (rest : List ℕ) → (text ≢ scope_text Previous ++ rest) × (text ≢ scope_text Before ++ rest)

-- each of some rules is among all of them
abbrev pub AreAmong : List Rule → List Rule → Type 0
AreAmong some all = All (Contains all) some
