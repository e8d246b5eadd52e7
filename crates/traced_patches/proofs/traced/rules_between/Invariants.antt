use Rattle.std.proofs.Common.{◌≡◌, ◌≤◌, length, take}
use Rattle.crash_model.specs.Reasons.{rules_between}
use Rattle.traced_patches.specs.Labels.{emitted_of}
use Rattle.traced_patches.proofs.traced.rules_between.Given as goal

abbrev pub invariant-loop-rule : goal.invariant-loop-rule
invariant-loop-rule l = record {
  applying : l.between.items ≡ rules_between (take l.rule-index l.rules) (emitted_of l.later) (emitted_of l.earlier);
  few : length l.between.items ≤ l.rule-index;
}
