use Rattle.patch_graph.proofs.graph.Graph.degree.Goals as goal

pub returns : goal.returns
returns g c = c.in_default.ensures.next c.loop-next.count c.loop-next.invariant
