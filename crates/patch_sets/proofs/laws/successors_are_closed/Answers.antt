use Rattle.patch_sets.proofs.Successors.{empty_closed, successor_closed}
use Rattle.patch_sets.proofs.laws.successors_are_closed.Goals as goal

pub returns-clause-empty : goal.returns-clause-empty
returns-clause-empty c = empty_closed c.args.deps.now

pub returns-clause-more : goal.returns-clause-more
returns-clause-more c = λ set after closed is. successor_closed c.args.deps.now set closed after is
