use Rattle.std.proofs.Common.{◌≡◌, ◌≤◌, length, take}
use Rattle.crash_model.specs.ChosenRules.{rules_in_both}
use Rattle.crash_model.proofs.rule_lists.rules_in_both.Given as goal

abbrev pub invariant-loop-rule : goal.invariant-loop-rule
invariant-loop-rule l = record {
  chosen : l.both.items ≡ rules_in_both (take l.rule-index l.rules) l.others;
  few : length l.both.items ≤ l.rule-index;
}
