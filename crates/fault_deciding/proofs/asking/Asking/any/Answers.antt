use Rattle.fault_deciding.proofs.Firsts.{any_with}
use Rattle.fault_deciding.proofs.asking.Asking.any.Goals as goal

pub returns : goal.returns
returns g c =
    let self = c.args.self.now in
    any_with self.demands.now self.chains.now c.args.fault self.sets.now.deps.now self.about self.found c.any.result
    c.any.ensures
