-- What is reported of the rules that are enough, and of the lines that wait that are enough.
use Rattle.std.specs.Prelude.{ℕ, List, [], ◌∷◌, ◌++◌, length, Bool, Option, option_map, option_to_list, codes, decimal}
use Rattle.std.specs.List.{flat_map}
use Rattle.serde_json.specs.Data.{Data, string}
use Rattle.crash_model.specs.PatchTexts.{act_text}
use Rattle.crash_model.specs.RuleTexts.{rule_text}
use Rattle.crash_model.specs.declared.steps.Step.{Step}
use Rattle.report.specs.Fields.{natural, list_of, words_if_any, words_json, object_of, field, field_if}
use Rattle.report.specs.Texts.{count_line, line, lines_of, spaced}
use Rattle.report.specs.CrashesJson.{fault_fields, first_json, replay_field, set_fields, writes_field}
use Rattle.report.specs.FirstCrashes.{first_text}
use Rattle.report.specs.Found.{FirstCrash, Need}
use Rattle.report.specs.HeadJson.{checker_fields, disk_fields, module_field}
use Rattle.report.specs.Reports.{Head, explained_text, head_text}
use Rattle.report.specs.Structs.{head_of}
use Rattle.report.specs.ReportsJson.{first_fields, last_fields}
use Rattle.report.specs.declared.choices.Enough as choices
use Rattle.report.specs.declared.choices.Choices.{Choices}
use Rattle.report.specs.declared.choices.Choices.TheVariants.{Rules, Lines}

-- ---- some rules, or some lines

abbrev pub choices_name : Choices → List ℕ
choices_name (Rules rules) = codes "rules"
choices_name (Lines lines) = codes "syncs"

unfoldable pub choices_words : Choices → List ℕ
choices_words (Rules rules) = spaced rule_text rules.items
choices_words (Lines lines) = spaced decimal lines.items

-- the line of some that are enough together
abbrev pub choices_text : Choices → List ℕ
choices_text choices = line (choices_name choices ++ choices_words choices)

abbrev pub choices_json : Bool → Choices → Data
choices_json numbers (Rules rules) = words_json rule_text rules.items
choices_json numbers (Lines lines) = list_of natural lines.items

unfoldable pub rules_field : Bool → Choices → List (List ℕ × Data)
rules_field numbers (Rules rules) = field (codes "rules") (words_json rule_text rules.items)
rules_field numbers (Lines lines) = []

unfoldable pub lines_field : Bool → Choices → List (List ℕ × Data)
lines_field numbers (Rules rules) = []
lines_field numbers (Lines lines) = field (codes "syncs") (list_of natural lines.items)

-- ---- some of which one is needed

abbrev pub step_text : Step → List ℕ
step_text step = act_text step.act

unfoldable pub need_line : Choices → List ℕ
need_line choices = line (codes "needs" ++ choices_words choices)

abbrev pub need_text : Need → List ℕ
need_text n =
    need_line n.choices
    ++ lines_of (codes "step") step_text n.steps
    ++ first_text n.first

abbrev pub need_json : Bool → Need → Data
need_json numbers n =
    object_of (
    fault_fields numbers n.first.fault
    ++ replay_field numbers n.first.crash
    ++ rules_field numbers n.choices
    ++ set_fields n.first.crash (n.first.fault ∷ [])
    ++ words_if_any (codes "steps") step_text n.steps
    ++ lines_field numbers n.choices
    ++ writes_field numbers n.first.crash)

-- ---- the report on the graph of a script

-- the minimal sets of choices that are enough, the minimal groups of which one is needed, and the first crash of all
-- choices, if they are not enough
pub record Enough : Type 0 where
  pub head : Head
  pub enough : List Choices
  pub needs : List Need
  pub first : Option FirstCrash

abbrev pub enough_of : {A : Type 0} → choices.Enough A → Enough
enough_of r = record {
  head = head_of r.head;
  enough = r.enough.now;
  needs = r.needs.now;
  first = option_map (λ f. f.now) r.first;
}

abbrev pub enough_text : Enough → List ℕ
enough_text r =
    head_text r.head
    ++ explained_text r.head
    ++ count_line (codes "enough") (length r.enough)
    ++ flat_map choices_text r.enough
    ++ flat_map need_text r.needs
    ++ flat_map first_text (option_to_list r.first)

abbrev pub enough_json : Bool → Enough → Data
enough_json numbers r =
    object_of (
    first_fields r.head
    ++ field (codes "closed") (string (decimal r.head.closed))
    ++ checker_fields r.head.settings
    ++ field (codes "enough") (list_of (choices_json numbers) r.enough)
    ++ field_if (codes "first") (first_json numbers) r.first
    ++ disk_fields numbers r.head.settings
    ++ module_field r.head.settings
    ++ field (codes "needs") (list_of (need_json numbers) r.needs)
    ++ last_fields numbers r.head)
