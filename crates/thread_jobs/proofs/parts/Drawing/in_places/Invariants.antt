use Rattle.std.proofs.Common.{◌≡◌, length, vec_len}
use Rattle.std.specs.Prelude.{IfOk}
use Rattle.std.specs.List.{All}
use Rattle.thread_jobs.specs.Parts.{ArePlaced, IsDrawn}
use Rattle.thread_jobs.proofs.parts.Drawing.in_places.Given as goal

abbrev pub invariant-loop-output : goal.invariant-loop-output
invariant-loop-output g l =
    let is_part = g.J.PartJob.is_part l.self.job.now in
    record {
      outputs : All (λ output. IfOk output (λ list. All (IsDrawn is_part l.self.parts) list.items)) l.outputs.items;
      count : length l.places.items ≡ l.self.parts;
      placed : ArePlaced is_part l.places.items;
    }

abbrev pub decreases-loop-output : goal.decreases-loop-output
decreases-loop-output g l = vec_len l.outputs
