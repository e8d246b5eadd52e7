use Rattle.std.proofs.Common.{arith}
use Rattle.patch_sets.proofs.LeadingRuns.{below_ids}
use Rattle.patch_sets.proofs.leading.below_lowest.Goals as goal

pub returns : goal.returns
returns c =
    let small = c.ranges.set.fits in
    below_ids c.args.set _ small (omega (arith, small)) (λ none. omega (arith, none))
    (λ some. omega (arith, small, some))
