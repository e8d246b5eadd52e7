use Rattle.set_families.specs.Families.{undecided_number}
use Rattle.set_families.proofs.closed_sets.ClosedSets.+any_member.Given as goal

abbrev pub decreases-any_member : goal.decreases-any_member
decreases-any_member g l = undecided_number l.self.now.deps.now l.family
