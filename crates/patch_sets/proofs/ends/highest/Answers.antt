use Rattle.patch_sets.proofs.LowestHighest.{highest_id}
use Rattle.patch_sets.proofs.ends.highest.Goals as goal

pub returns-clause-found : goal.returns-clause-found
returns-clause-found c = highest_id c.args.set c.if-set-eq0.false c.ranges.set.fits
