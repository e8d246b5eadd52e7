use Rattle.set_families.proofs.Held.{barred_family, barred_members, barred_fewer}
use Rattle.set_families.proofs.closed_sets.ClosedSets.bar.Goals as goal

pub returns-clause-family : goal.returns-clause-family
returns-clause-family c = let graph = c.args.self.now in
    barred_family graph.deps.now graph.closures graph.few graph.closed c.args.family c.requires.family c.args.id
    c.requires.undecided graph.standings graph.standing

pub returns-clause-members : goal.returns-clause-members
returns-clause-members c = let graph = c.args.self.now in
    barred_members graph.deps.now graph.closures graph.few graph.closed c.args.family c.requires.family c.args.id
    c.requires.undecided graph.standings graph.standing

pub returns-clause-fewer : goal.returns-clause-fewer
returns-clause-fewer c = let graph = c.args.self.now in
    barred_fewer graph.deps.now graph.closures graph.few graph.closed c.args.family c.requires.family c.args.id
    c.requires.undecided graph.standings graph.standing
