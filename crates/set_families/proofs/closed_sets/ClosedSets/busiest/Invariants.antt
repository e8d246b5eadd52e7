use Rattle.patch_sets.specs.Sets.{Has}
use Rattle.set_families.proofs.closed_sets.ClosedSets.busiest.Given as goal

abbrev pub invariant-loop-id : goal.invariant-loop-id
invariant-loop-id l = Has l.undecided l.busiest
