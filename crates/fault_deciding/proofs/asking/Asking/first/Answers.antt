use Rattle.fault_deciding.proofs.Firsts.{first_with}
use Rattle.fault_deciding.proofs.asking.Asking.first.Goals as goal

pub returns : goal.returns
returns g c =
    let self = c.args.self.now in
    first_with self.demands.now self.chains.now c.args.fault self.sets.now.deps.now self.about self.found c.first.result
    c.first.ensures
