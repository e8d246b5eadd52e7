use Rattle.std.proofs.Common.{◌≤◌}
use Rattle.chosen_rules.specs.ExcludedBy.{HasBehind}
use Rattle.chosen_rules.proofs.lines.has_behind.Given as goal

abbrev pub invariant-loop-later : goal.invariant-loop-later
invariant-loop-later g l = (b : HasBehind l.traced.emitted l.set l.id l.line) → l.later ≤ b.q
