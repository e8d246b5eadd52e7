use Rattle.std.proofs.Common.{arith}
use Rattle.std.proofs.lemmas.Grind.{common_steps}
use Rattle.thread_jobs.proofs.parts.Drawing.all_parts.Goals as goal

pub loop-at-preserved : goal.loop-at-preserved
loop-at-preserved g c = record {
  count = grind (arith, common_steps);
  placed = grind (arith, common_steps);
  within = omega arith;
  made = grind (arith, common_steps);
  each = grind (arith, common_steps);
}

pub returns : goal.returns
returns g c = record {
  count = omega arith;
  each = c.loop-at.invariant.each;
}
