use Rattle.patch_sets.proofs.Bits.{subset_from_and, and_from_subset}
use Rattle.std.proofs.Common.{arith, tests, eq-eqb}
use Rattle.patch_sets.proofs.set.is_subset.Goals as goal

pub returns : goal.returns
returns c = (
  λ is. subset_from_and c.args.part c.args.whole (grind (arith, tests, is)),
  λ within. eq-eqb _ _ (and_from_subset c.args.part c.args.whole within),
)
