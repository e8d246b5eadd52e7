use Rattle.std.proofs.Common.{arith}
use Rattle.journal_replay.proofs.Changed.{first_none, first_more, subset_more}
use Rattle.journal_replay.proofs.journal.with_all.Goals as goal

pub loop-block-init : goal.loop-block-init
loop-block-init c = record { old = λ id member. member; more = first_none c.args.set c.args.blocks.now }

pub loop-block-preserved : goal.loop-block-preserved
loop-block-preserved c = record {
  old = subset_more c.args.set c.loop-block.all c.with-all.result c.from.result c.with-all.ensures
      c.loop-block.invariant.old;
  more = first_more c.loop-block.all c.with-all.result c.from.result c.loop-block.block-index c.args.blocks.now
      c.with-all.ensures c.from.ensures c.loop-block.invariant.more;
}

pub returns-clause-more : goal.returns-clause-more
returns-clause-more c = λ k below. c.loop-block.invariant.more.each k (omega arith)
