use Rattle.patch_sets.proofs.Successors.{reached_closed, closed_reached}
use Rattle.patch_sets.proofs.laws.reach_is_the_closed_sets.Goals as goal

pub returns : goal.returns
returns c = λ set. (reached_closed c.args.deps.now set, closed_reached c.args.deps.now c.requires set)
