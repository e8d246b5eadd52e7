-- What a report says of the settings of its run: the ordering, the disk and the checker.
use Rattle.std.specs.Prelude.{ℕ, List, ◌++◌, codes, [], Option, None, Some}
use Rattle.crash_model.specs.declared.settings.Settings.{Settings}
use Rattle.report.specs.Texts.{line, line_if, ids_text, lines_of}
use Rattle.crash_model.specs.Texts.{module_text}
use Rattle.crash_model.specs.RuleTexts.{rule_text}
use Rattle.crash_model.specs.ChosenRules.{rules_taken_out, rules_put_in}
use Rattle.crash_model.specs.declared.rules.Rule.{Rule}

abbrev pub listed_without : Settings → List Rule
listed_without s = rules_taken_out s.module s.without.items

abbrev pub listed_with : Settings → List Rule
listed_with s = rules_put_in s.module s.without.items s.with.items

unfoldable pub module_line : Settings → List ℕ
module_line s = line (codes "module " ++ module_text s.module)

unfoldable pub counted_text : Option ℕ → List ℕ
counted_text None = []
counted_text (Some counted) = line (codes "faults" ++ ids_text counted)

-- the lines that each report begins with
unfoldable pub settings_text : Settings → List ℕ
settings_text s =
    module_line s
    ++ lines_of (codes "without") rule_text (listed_without s)
    ++ lines_of (codes "with") rule_text (listed_with s)
    ++ line_if s.generations (codes "generations")
    ++ line_if s.whole_blocks (codes "whole blocks")
    ++ line_if s.strict (codes "strict")
    ++ line_if s.atomic (codes "atomic")
    ++ line_if s.durable (codes "durable")
    ++ counted_text s.counted
