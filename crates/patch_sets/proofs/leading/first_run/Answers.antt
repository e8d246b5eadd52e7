use Rattle.std.proofs.Common.{arith}
use Rattle.patch_sets.proofs.LeadingRuns.{are_gaps, end_of, is_run}
use Rattle.patch_sets.proofs.LowestHighest.{lowest_id}
use Rattle.patch_sets.proofs.leading.first_run.Goals as goal

pub returns : goal.returns
returns c =
    let set = c.args.set in
    let small = c.ranges.set.fits in
    let lowest = lowest_id set c.if-set-eq0.false small in
    let gap = are_gaps set _ c.below_lowest.result lowest small c.below_lowest.type_inv c.below_lowest.ensures in
    is_run set _ _ _ _ _ lowest small gap (end_of _ (omega arith)) c.below_lowest-2.ensures c.difference.ensures
