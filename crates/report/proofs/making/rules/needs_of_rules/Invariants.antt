use Rattle.std.proofs.Common.{◌≡◌, All, map, take}
use Rattle.crash_model.specs.Tracing.{Tracing}
use Rattle.enough_deciding.specs.Rules.{IsTracingOf}
use Rattle.report.specs.Needed.{IsNeedByRules}
use Rattle.report.specs.Found.{Need}
use Rattle.report.proofs.making.rules.needs_of_rules.Given as goal

abbrev pub invariant-loop-group : goal.invariant-loop-group
invariant-loop-group g l = record {
  groups : map (λ (n : Need). n.group) l.needs.items ≡ take l.group-index l.groups;
  needs : (s : Tracing) → IsTracingOf l.oracle.traced.now s → All (IsNeedByRules l.explain l.oracle s) l.needs.items;
}
