use Rattle.std.proofs.Common.{◌≡◌, ◌≤◌, length}
use Rattle.chosen_rules.proofs.Lists.{rules_to}
use Rattle.chosen_rules.proofs.choosing.rules_in.Given as goal

abbrev pub invariant-loop-place : goal.invariant-loop-place
invariant-loop-place l = record {
  rules : l.rules.items ≡ rules_to l.place l.all l.set;
  few : length l.rules.items ≤ l.place;
}
