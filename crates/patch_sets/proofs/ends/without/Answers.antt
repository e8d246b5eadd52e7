use Rattle.std.proofs.lemmas.Nat.{and_le_l}
use Rattle.patch_sets.proofs.LowestHighest.{without_id, smaller_without}
use Rattle.patch_sets.proofs.ends.without.Goals as goal

pub returns-clause-others : goal.returns-clause-others
returns-clause-others c = without_id c.args.set c.args.id c.requires c.ranges.set.fits

pub returns-clause-smaller : goal.returns-clause-smaller
returns-clause-smaller c = smaller_without c.args.set c.args.id _ (and_le_l c.args.set _)
    (without_id c.args.set c.args.id c.requires c.ranges.set.fits)
