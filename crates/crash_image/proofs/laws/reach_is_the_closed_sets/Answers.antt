use Rattle.crash_image.proofs.FailingSets.{earlier_of, reach_closed}
use Rattle.crash_image.proofs.laws.reach_is_the_closed_sets.Goals as goal

pub returns : goal.returns
returns g c = λ set. reach_closed c.args.space.now (earlier_of c.args.space.now c.space.inside.base.now
    c.space.inside.graph.now c.space.inside.demands.now c.space.view_is c.space.invariant) set
