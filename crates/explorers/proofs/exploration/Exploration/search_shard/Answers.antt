use Rattle.std.proofs.Common.{arith, ◌∙◌}
use Rattle.board_rule.specs.Lists.{row_of}
use Rattle.board_rule.proofs.Sums.{starts-length}
use Rattle.explorers.proofs.Meeting.{ready_on}
use Rattle.explorers.proofs.exploration.Exploration.search_shard.Goals as goal

pub loop-at-init : goal.loop-at-init
loop-at-init g c =
    let free = c.requires.ready.free in
    record {
      ready = ready_on _ _ _ c.args.mine.now.seat _ free.explored free.own free.recent c.requires.ready.counted
          c.see_shard-count.ensures.idle c.see_shard-count.ensures.keeps c.see_shard-count.ensures.sees;
      share = c.see_shard-count.ensures.keeps.share;
      seen = c.see_shard-count.ensures.seen;
    }

pub loop-at-preserved : goal.loop-at-preserved
loop-at-preserved g c = record {
  ready = c.visit.ensures.ready;
  share = c.visit.ensures.share ∙ c.loop-at.invariant.share;
  seen = omega (
    arith,
    c.loop-at.invariant.seen,
    starts-length (row_of c.visit.new.mine.seat.seen c.args.shard)
        (row_of c.loop-at.mine.seat.seen c.args.shard) (c.visit.ensures.sees c.args.shard c.requires.shard),
  );
}
