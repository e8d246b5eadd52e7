use Rattle.set_families.proofs.Parts.{part_family, part_members, part_fewer}
use Rattle.set_families.proofs.closed_sets.ClosedSets.bar_part.Goals as goal

pub returns-clause-family : goal.returns-clause-family
returns-clause-family c = part_family c.args.self.now.deps.now c.args.family c.requires.family c.args.part
    c.requires.part

pub returns-clause-members : goal.returns-clause-members
returns-clause-members c = part_members c.args.self.now.deps.now c.args.family c.requires.family c.args.part
    c.requires.part

pub returns-clause-fewer : goal.returns-clause-fewer
returns-clause-fewer c = part_fewer c.args.self.now.deps.now c.args.family c.requires.family c.args.part
    c.requires.part
