use Rattle.set_families.specs.Families.{undecided_number}
use Rattle.set_families.proofs.closed_sets.ClosedSets.+count_members.Given as goal

abbrev pub decreases-count_members : goal.decreases-count_members
decreases-count_members l = undecided_number l.self.now.deps.now l.family
