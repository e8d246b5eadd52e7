use Rattle.thread_jobs.proofs.parts.Drawing.put_parts.Goals as goal

pub loop-at-init : goal.loop-at-init
loop-at-init g c = record {
  count = c.requires.count;
  placed = c.requires.placed;
  list = c.requires.list;
}

pub returns : goal.returns
returns g c = record {
  count = c.loop-at.invariant.count;
  placed = c.loop-at.invariant.placed;
}
