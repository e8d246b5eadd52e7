use Rattle.std.proofs.Common.{rules}
use Rattle.std.proofs.lemmas.List.Elements.{All-take}
use Rattle.std.specs.Prelude.{IfOk}
use Rattle.std.specs.List.{All}
use Rattle.thread_jobs.specs.Parts.{IsDrawn}
use Rattle.thread_jobs.proofs.parts.Drawing.in_places.Goals as goal

pub loop-output-init : goal.loop-output-init
loop-output-init g c = record {
  outputs = c.requires;
  count = c.in_ok-places.ensures.count;
  placed = λ n d inside. rw (c.in_ok-places.ensures.empty n d inside) (search rules);
}

pub loop-output-preserved : goal.loop-output-preserved
loop-output-preserved g c =
    let is_part = g.J.PartJob.is_part c.args.self.now.job.now in
    record {
      outputs = rw c.pop.ensures.rest (
          All-take
          (λ output. IfOk output (λ list. All (IsDrawn is_part c.args.self.now.parts) list.items))
          _
          _
          c.loop-output.invariant.outputs
          );
      count = c.put_parts.ensures.count;
      placed = c.put_parts.ensures.placed;
    }

pub put_parts-requires-clause-count : goal.put_parts-requires-clause-count
put_parts-requires-clause-count g c = c.loop-output.invariant.count

pub put_parts-requires-clause-placed : goal.put_parts-requires-clause-placed
put_parts-requires-clause-placed g c = c.loop-output.invariant.placed

pub returns : goal.returns
returns g c = record {
  count = c.loop-output.invariant.count;
  placed = c.loop-output.invariant.placed;
}
