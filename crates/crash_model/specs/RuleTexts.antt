-- How a rule is written.
use Rattle.std.specs.Prelude.{ℕ, List, [], ◌++◌, codes}
use Rattle.crash_model.specs.declared.rules.RulePart.{RulePart}
use Rattle.crash_model.specs.declared.rules.RulePart.TheVariants.{Change, InPlace, FileData, Copy, Commit, Done}
use Rattle.crash_model.specs.declared.rules.Scope.{Scope}
use Rattle.crash_model.specs.declared.rules.Scope.TheVariants.{Same, Previous, Before}
use Rattle.crash_model.specs.declared.rules.Rule.{Rule}
use Rattle.crash_model.specs.Rules.{role_text}

abbrev pub rule_part_text : RulePart → List ℕ
rule_part_text (Change role) = role_text role
rule_part_text InPlace = codes "InPlace"
rule_part_text FileData = codes "FileData"
rule_part_text Copy = codes "Copy"
rule_part_text Commit = codes "Commit"
rule_part_text Done = codes "Done"

abbrev pub scope_text : Scope → List ℕ
scope_text Same = []
scope_text Previous = codes "previous-"
scope_text Before = codes "before-"

-- as a rule is written
abbrev pub rule_text : Rule → List ℕ
rule_text rule = rule_part_text rule.later ++ codes ":" ++ scope_text rule.scope ++ rule_part_text rule.earlier
