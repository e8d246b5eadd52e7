use Rattle.std.proofs.Common.{ap}
use Rattle.seen_board.specs.Known.{Known}
use Rattle.seen_board.specs.Ended.{claims_made}
use Rattle.seen_board.proofs.Chains.{sees_on_trans}
use Rattle.explorers.proofs.Counting.{keeps_trans}
use Rattle.explorers.proofs.stealing.learn.Goals as goal

pub returns-then-is_none-clause-sees : goal.returns-then-is_none-clause-sees
returns-then-is_none-clause-sees g c = sees_on_trans c.args.seat.now.seen c.find.new.seat.seen c.see_shard.new.seat.seen
    c.find.ensures.sees.1 c.see_shard.ensures.sees

pub returns-then-is_none-clause-keeps : goal.returns-then-is_none-clause-keeps
returns-then-is_none-clause-keeps g c = keeps_trans c.args.seat.now c.find.new.seat c.see_shard.new.seat
    (record {
      claims = ap claims_made c.find.ensures.sees.0;
      share = ap (λ (s : Known). s.share) c.find.ensures.sees.0;
    })
    c.see_shard.ensures.keeps
