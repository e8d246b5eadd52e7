use Rattle.std.proofs.Common.{arith, refl}
use Rattle.explorers.proofs.exploration.Exploration.judge.Goals as goal

pub settle-requires-clause-seen : goal.settle-requires-clause-seen
settle-requires-clause-seen g c = c.requires.claim.1

pub settle-requires-clause-successors : goal.settle-requires-clause-successors
settle-requires-clause-successors g c = rw c.requires.free.explored (rw (← c.requires.word) c.requires.successors)

pub settle-requires-clause-verdict : goal.settle-requires-clause-verdict
settle-requires-clause-verdict g c = rw c.requires.free.explored (rw (← c.requires.word) c.in_ok-good.ensures.good)

pub returns-clause-keeps : goal.returns-clause-keeps
returns-clause-keeps g c = rw c.settle.ensures (record { claims = omega (arith, c.requires.claim.0); share = refl })

pub returns-in_err-good-clause-keeps : goal.returns-in_err-good-clause-keeps
returns-in_err-good-clause-keeps g c = record { claims = refl; share = refl }
