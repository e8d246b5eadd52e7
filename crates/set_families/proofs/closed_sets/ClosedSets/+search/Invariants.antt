use Rattle.set_families.specs.Families.{undecided_number}
use Rattle.set_families.proofs.closed_sets.ClosedSets.+search.Given as goal

abbrev pub decreases-search : goal.decreases-search
decreases-search g l = undecided_number l.self.now.deps.now l.family
