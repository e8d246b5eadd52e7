use Rattle.std.proofs.Common.{◌≡◌, ◌≤◌, length}
use Rattle.traced_patches.specs.Labels.{waits_by}
use Rattle.report.proofs.WaitLines.{lines_to}
use Rattle.report.proofs.choices.lines_at.Given as goal

abbrev pub invariant-loop-place : goal.invariant-loop-place
invariant-loop-place l = record {
  lines : l.lines.items ≡ lines_to l.place (waits_by l.waits) l.places;
  few : length l.lines.items ≤ l.place;
}
