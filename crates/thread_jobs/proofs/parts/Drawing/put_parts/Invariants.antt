use Rattle.std.proofs.Common.{◌≡◌, length, vec_len}
use Rattle.std.specs.List.{All}
use Rattle.thread_jobs.specs.Parts.{ArePlaced, IsDrawn}
use Rattle.thread_jobs.proofs.parts.Drawing.put_parts.Given as goal

abbrev pub invariant-loop-at : goal.invariant-loop-at
invariant-loop-at g l =
    let is_part = g.J.PartJob.is_part l.self.job.now in
    record {
      count : length l.places.items ≡ l.self.parts;
      placed : ArePlaced is_part l.places.items;
      list : All (IsDrawn is_part l.self.parts) l.list.items;
    }

abbrev pub decreases-loop-at : goal.decreases-loop-at
decreases-loop-at g l = vec_len l.list
