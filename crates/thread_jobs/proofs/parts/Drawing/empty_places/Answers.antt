use Rattle.std.proofs.Common.{arith}
use Rattle.std.proofs.lemmas.Grind.{common_steps}
use Rattle.thread_jobs.proofs.parts.Drawing.empty_places.Goals as goal

pub loop-preserved : goal.loop-preserved
loop-preserved g c = record {
  within = omega arith;
  count = grind (arith, common_steps);
  empty = grind (arith, common_steps);
}

pub returns : goal.returns
returns g c = record {
  count = omega arith;
  empty = c.loop.invariant.empty;
}
