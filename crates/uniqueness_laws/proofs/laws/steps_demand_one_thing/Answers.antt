use Rattle.uniqueness_laws.proofs.Demands.{one_demands}
use Rattle.uniqueness_laws.proofs.laws.steps_demand_one_thing.Goals as goal

pub returns : goal.returns
returns c = one_demands
