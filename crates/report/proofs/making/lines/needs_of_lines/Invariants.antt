use Rattle.std.proofs.Common.{◌≡◌, All, map, take}
use Rattle.crash_model.specs.Tracing.{Tracing}
use Rattle.enough_deciding.specs.Lines.{HasWaits}
use Rattle.report.specs.Needed.{IsNeedByLines}
use Rattle.report.specs.Found.{Need}
use Rattle.report.proofs.making.lines.needs_of_lines.Given as goal

abbrev pub invariant-loop-group : goal.invariant-loop-group
invariant-loop-group g l = record {
  groups : map (λ (n : Need). n.group) l.needs.items ≡ take l.group-index l.groups;
  needs : (s : Tracing) → HasWaits l.oracle.traced.now s → All (IsNeedByLines l.explain l.oracle s) l.needs.items;
}
