use Rattle.set_families.proofs.Held.{held_family, held_members, held_fewer}
use Rattle.set_families.proofs.closed_sets.ClosedSets.hold.Goals as goal

pub returns-clause-family : goal.returns-clause-family
returns-clause-family c = let graph = c.args.self.now in
    held_family graph.deps.now graph.closures graph.few graph.closed c.args.family c.requires.family c.args.id
    c.requires.undecided

pub returns-clause-members : goal.returns-clause-members
returns-clause-members c = let graph = c.args.self.now in
    held_members graph.deps.now graph.closures graph.few graph.closed c.args.family c.requires.family c.args.id
    c.requires.undecided

pub returns-clause-fewer : goal.returns-clause-fewer
returns-clause-fewer c = let graph = c.args.self.now in
    held_fewer graph.deps.now graph.closures graph.few graph.closed c.args.family c.requires.family c.args.id
    c.requires.undecided
