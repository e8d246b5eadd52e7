use Rattle.std.proofs.Common.{arith}
use Rattle.workload_search.proofs.counts.join_counts.Goals as goal

pub returns : goal.returns
returns c = record {
  long = c.loop-i.invariant.long;
  each = λ k low. c.loop-i.invariant.done k (omega arith);
}
