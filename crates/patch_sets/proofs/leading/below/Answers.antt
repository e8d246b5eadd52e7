use Rattle.patch_sets.proofs.Stepped.{left_below, left_whole}
use Rattle.patch_sets.proofs.leading.below.Goals as goal

pub returns-then-n-lt128 : goal.returns-then-n-lt128
returns-then-n-lt128 c = left_below c.args.set c.args.n c.if-n-lt128.true

pub returns-else-n-lt128 : goal.returns-else-n-lt128
returns-else-n-lt128 c = left_whole c.args.set c.args.n c.if-n-lt128.false c.ranges.set.fits
