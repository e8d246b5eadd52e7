use Rattle.std.proofs.Common.{ap}
use Rattle.seen_board.specs.Known.{Known}
use Rattle.seen_board.specs.Ended.{claims_made}
use Rattle.explorers.proofs.searching.see_shard.Goals as goal

pub returns-clause-sees : goal.returns-clause-sees
returns-clause-sees g c = rw c.leave.ensures (rw c.see-count.ensures.same c.read.ensures.right.1)

pub returns-clause-keeps : goal.returns-clause-keeps
returns-clause-keeps g c = rw c.leave.ensures (rw c.see-count.ensures.same (record {
  claims = ap claims_made c.read.ensures.right.0;
  share = ap (λ (s : Known). s.share) c.read.ensures.right.0;
}))
