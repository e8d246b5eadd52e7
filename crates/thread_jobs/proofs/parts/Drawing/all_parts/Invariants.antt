use Rattle.std.proofs.Common.{◌≡◌, ◌≤◌, length}
use Rattle.thread_jobs.specs.Parts.{AreParts, ArePlaced}
use Rattle.thread_jobs.proofs.parts.Drawing.all_parts.Given as goal

abbrev pub invariant-loop-at : goal.invariant-loop-at
invariant-loop-at g l = record {
  count : length l.places.items ≡ l.self.parts;
  placed : ArePlaced (g.J.PartJob.is_part l.self.job.now) l.places.items;
  within : l.at ≤ l.self.parts;
  made : length l.made.items ≡ l.at;
  each : AreParts (g.J.PartJob.is_part l.self.job.now) l.made.items;
}
