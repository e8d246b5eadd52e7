use Rattle.std.proofs.Common.{arith, subst}
use Rattle.state_space.specs.Counts.{IsListOf}
use Rattle.explorers.specs.Entries.{IsBrokenBefore}
use Rattle.explorers.proofs.Entries.{none_before}
use Rattle.explorers.proofs.collected.broken_words.Goals as goal

pub loop-shard-init : goal.loop-shard-init
loop-shard-init g c = rw c.new-broken.ensures.items (none_before c.args.contents.now)

pub returns : goal.returns
returns g c = subst (λ q. IsListOf (IsBrokenBefore c.args.contents.now q 0) c.loop-shard.broken.items)
    (omega (arith, c.loop-shard-test.false)) c.loop-shard.invariant
