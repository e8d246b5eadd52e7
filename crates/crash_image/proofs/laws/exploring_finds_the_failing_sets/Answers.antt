use Rattle.crash_image.proofs.FailingSets.{earlier_of, closed_number, closed_more, bad_list}
use Rattle.crash_image.proofs.laws.exploring_finds_the_failing_sets.Goals as goal

pub returns-clause-total : goal.returns-clause-total
returns-clause-total g c = closed_number c.args.space.now
    (earlier_of c.args.space.now c.space.inside.base.now c.space.inside.graph.now c.space.inside.demands.now
    c.space.view_is
    c.space.invariant)

pub returns-clause-too_many : goal.returns-clause-too_many
returns-clause-too_many g c = closed_more c.args.space.now
    (earlier_of c.args.space.now c.space.inside.base.now c.space.inside.graph.now c.space.inside.demands.now
    c.space.view_is
    c.space.invariant)

pub returns-clause-failing : goal.returns-clause-failing
returns-clause-failing g c = bad_list c.args.space.now
    (earlier_of c.args.space.now c.space.inside.base.now c.space.inside.graph.now c.space.inside.demands.now
    c.space.view_is
    c.space.invariant)
