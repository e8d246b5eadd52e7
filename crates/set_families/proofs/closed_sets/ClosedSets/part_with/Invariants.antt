use Rattle.std.proofs.Common.{◌-◌, ◌^◌}
use Rattle.patch_sets.specs.Sets.{Has, IsSubset}
use Rattle.set_families.proofs.closed_sets.ClosedSets.part_with.Given as goal

abbrev pub invariant-loop-part : goal.invariant-loop-part
invariant-loop-part l = record { within : IsSubset l.part l.undecided; inside : Has l.part l.id }

abbrev pub decreases-loop-part : goal.decreases-loop-part
decreases-loop-part l = 2 ^ 128 - l.part
