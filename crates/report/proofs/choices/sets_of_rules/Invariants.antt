use Rattle.std.proofs.Common.{◌≡◌, map, take}
use Rattle.report.specs.OnChoices.{rules_at}
use Rattle.report.proofs.choices.sets_of_rules.Given as goal

abbrev pub invariant-loop-places : goal.invariant-loop-places
invariant-loop-places l = l.all.items ≡ map (rules_at l.ordering.rules.items) (take l.places-index l.sets)
