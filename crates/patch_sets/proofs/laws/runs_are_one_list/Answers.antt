use Rattle.patch_sets.proofs.Writes.{one_runs}
use Rattle.patch_sets.proofs.laws.runs_are_one_list.Goals as goal

pub returns : goal.returns
returns c = one_runs c.args.homes.now
