use Rattle.patch_sets.proofs.LowestHighest.{difference_ids}
use Rattle.patch_sets.proofs.ends.difference.Goals as goal

pub returns : goal.returns
returns c = difference_ids c.args.set c.args.other c.ranges.set.fits c.ranges.other.fits
