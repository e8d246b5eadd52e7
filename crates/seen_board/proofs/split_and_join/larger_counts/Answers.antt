use Rattle.std.proofs.Common.{◌∙◌, length-set, get_or-set_other, arith}
use Rattle.seen_board.proofs.AfterJoins.{larger_so_far}
use Rattle.seen_board.proofs.split_and_join.larger_counts.Goals as goal

pub loop-q-preserved : goal.loop-q-preserved
loop-q-preserved c = record {
  size = length-set c.loop-q.counts c.loop-q.q c.max.result ∙ c.loop-q.invariant.size;
  done = larger_so_far c.loop-q.counts c.args.first.now c.args.second.now c.loop-q.q c.max.result
      (omega (arith, c.loop-q.invariant.size)) c.max.ensures c.loop-q.invariant.done c.loop-q.invariant.rest;
  rest = λ p h. get_or-set_other c.loop-q.counts c.loop-q.q p c.max.result 0 (λ e. omega (arith, e, h))
      ∙ c.loop-q.invariant.rest p (omega (arith, h));
}
