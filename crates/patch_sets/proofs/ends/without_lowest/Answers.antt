use Rattle.std.proofs.lemmas.Nat.{and_le_l}
use Rattle.patch_sets.proofs.LowestHighest.{lowest_id, smaller_without, without_lowest_id}
use Rattle.patch_sets.proofs.ends.without_lowest.Goals as goal

pub returns-clause-others : goal.returns-clause-others
returns-clause-others c = λ id lowest. without_lowest_id c.args.set id lowest

pub returns-clause-smaller : goal.returns-clause-smaller
returns-clause-smaller c =
    let lowest = lowest_id c.args.set c.requires c.ranges.set.fits in
    smaller_without c.args.set _ _ (and_le_l c.args.set _) (without_lowest_id c.args.set _ lowest) lowest.inside
