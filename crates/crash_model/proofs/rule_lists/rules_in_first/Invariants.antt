use Rattle.std.proofs.Common.{◌≡◌, ◌≤◌, length, take}
use Rattle.crash_model.specs.ChosenRules.{rules_in_first}
use Rattle.crash_model.proofs.rule_lists.rules_in_first.Given as goal

abbrev pub invariant-loop-rule : goal.invariant-loop-rule
invariant-loop-rule l = record {
  chosen : l.first.items ≡ rules_in_first (take l.rule-index l.rules) l.others;
  few : length l.first.items ≤ l.rule-index;
}
