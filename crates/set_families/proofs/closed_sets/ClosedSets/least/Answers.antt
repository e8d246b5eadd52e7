use Rattle.set_families.proofs.Members.{held_member}
use Rattle.set_families.proofs.First.{held_first}
use Rattle.set_families.proofs.closed_sets.ClosedSets.least.Goals as goal

pub returns-clause-member : goal.returns-clause-member
returns-clause-member c = held_member c.args.self.now.deps.now c.args.family c.requires

pub returns-clause-first : goal.returns-clause-first
returns-clause-first c = held_first c.args.self.now.deps.now c.args.family c.requires
