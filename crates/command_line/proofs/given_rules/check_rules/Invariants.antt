use Rattle.std.proofs.Common.{◌≡◌, take}
use Rattle.std.specs.List.{All}
use Rattle.crash_model.specs.ChosenRules.{has_rule}
use Rattle.crash_model.specs.declared.rules.Rule.{Rule}
use Rattle.command_line.proofs.given_rules.check_rules.Given as goal

abbrev pub invariant-loop-rule : goal.invariant-loop-rule
invariant-loop-rule l = All (λ (rule : Rule). has_rule l.others rule ≡ l.wanted) (take l.rule-index l.rules)
