use Rattle.patch_sets.proofs.Runs.{left_closed, closed_left}
use Rattle.patch_sets.proofs.laws.crash_leaves_the_closed_sets.Goals as goal

pub returns : goal.returns
returns c = λ set. (
  left_closed c.args.deps.now c.args.homes.now set,
  closed_left c.args.deps.now c.args.homes.now set c.requires,
)
