use Rattle.patch_sets.proofs.LowestHighest.{lowest_id}
use Rattle.patch_sets.proofs.ends.lowest.Goals as goal

pub returns-clause-found : goal.returns-clause-found
returns-clause-found c = lowest_id c.args.set c.if-set-eq0.false c.ranges.set.fits
