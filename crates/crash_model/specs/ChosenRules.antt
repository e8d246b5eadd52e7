-- A module's rules with some taken out and some put in.
use Rattle.std.specs.Prelude.{List, ◌++◌, filter, Bool, ◌&&◌, not, bytes_eq}
use Rattle.std.specs.List.{list_any}
use Rattle.crash_model.specs.declared.rules.Rule.{Rule}
use Rattle.crash_model.specs.declared.modules.Module.{Module}
use Rattle.crash_model.specs.RuleTexts.{rule_part_text, scope_text}
use Rattle.crash_model.specs.Rules.{rules_of}

-- two rules are one: their parts and scopes are written the same
abbrev pub is_same_rule : Rule → Rule → Bool
is_same_rule rule other =
    bytes_eq (rule_part_text rule.later) (rule_part_text other.later)
    && (bytes_eq (rule_part_text rule.earlier) (rule_part_text other.earlier)
    && bytes_eq (scope_text rule.scope) (scope_text other.scope))

abbrev pub has_rule : List Rule → Rule → Bool
has_rule rules rule = list_any (is_same_rule rule) rules

-- the rules that both lists have, and those that the second does not have, in the order of the first
abbrev pub rules_in_both : List Rule → List Rule → List Rule
rules_in_both rules others = filter (has_rule others) rules

abbrev pub rules_in_first : List Rule → List Rule → List Rule
rules_in_first rules others = filter (λ rule. not (has_rule others rule)) rules

-- the module's rules that are taken out, and those that stay
abbrev pub rules_taken_out : Module → List Rule → List Rule
rules_taken_out kind without = rules_in_both (rules_of kind) without

abbrev pub kept_rules : Module → List Rule → List Rule
kept_rules kind without = rules_in_first (rules_of kind) without

-- the rules that are put in, if the module's list has not kept them
abbrev pub rules_put_in : Module → List Rule → List Rule → List Rule
rules_put_in kind without with = rules_in_first with (kept_rules kind without)

-- the rules of the module with some taken out and some put in at the end
abbrev pub rules_under : Module → List Rule → List Rule → List Rule
rules_under kind without with = kept_rules kind without ++ rules_put_in kind without with
