use Rattle.std.proofs.Common.{◌≡◌, ◌≤◌, ◌+◌, ◌++◌, length, map, take}
use Rattle.traced_patches.specs.Reasons.{first_reasons}
use Rattle.traced_patches.specs.declared.reasons.Reason.TheVariants.{Rule}
use Rattle.traced_patches.proofs.reasons.Reasons.list.Given as goal

abbrev pub invariant-loop-rule : goal.invariant-loop-rule
invariant-loop-rule l = record {
  items : l.list.items ≡ first_reasons l.self.overlap l.self.block l.self.group l.self.wait
      ++ map Rule (take l.rule-index l.self.rules.items);
  few : length l.list.items ≤ l.rule-index + 4;
}
