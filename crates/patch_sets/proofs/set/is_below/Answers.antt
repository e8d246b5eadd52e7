use Rattle.patch_sets.proofs.Bits.{below_from_small, small_from_below, small_from_shift, shift_from_small}
use Rattle.std.proofs.Common.{arith, tests, eq-eqb}
use Rattle.patch_sets.proofs.set.is_below.Goals as goal

pub returns : goal.returns
returns c = (
  λ is id. below_from_small c.args.set c.args.n id (small_from_shift c.args.set c.args.n (grind (arith, tests, is))),
  λ below. eq-eqb _ _ (shift_from_small c.args.set c.args.n (small_from_below c.args.set c.args.n below)),
)
