use Rattle.std.proofs.Common.{◌≡◌, false, take}
use Rattle.std.specs.List.{list_any}
use Rattle.crash_model.specs.Trace.{applies}
use Rattle.traced_patches.specs.Labels.{emitted_of}
use Rattle.traced_patches.proofs.labels.is_ordered.Given as goal

abbrev pub invariant-loop-rule : goal.invariant-loop-rule
invariant-loop-rule l = list_any (λ rule. applies rule (emitted_of l.later) (emitted_of l.earlier))
    (take l.rule-index l.rules) ≡ false
