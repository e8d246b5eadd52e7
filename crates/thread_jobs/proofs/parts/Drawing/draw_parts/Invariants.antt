use Rattle.std.specs.List.{All}
use Rattle.thread_jobs.specs.Parts.{IsDrawn}
use Rattle.thread_jobs.proofs.parts.Drawing.draw_parts.Given as goal

abbrev pub invariant-loop : goal.invariant-loop
invariant-loop g l = All (IsDrawn (g.J.PartJob.is_part l.self.job.now) l.self.parts) l.list.items
