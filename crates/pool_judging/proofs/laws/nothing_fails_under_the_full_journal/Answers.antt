use Rattle.pool_judging.proofs.Full.{nothing_fails, none_failing}
use Rattle.pool_judging.proofs.laws.nothing_fails_under_the_full_journal.Goals as goal

pub returns-clause-sequences : goal.returns-clause-sequences
returns-clause-sequences c = nothing_fails

pub returns-clause-found : goal.returns-clause-found
returns-clause-found c = none_failing
