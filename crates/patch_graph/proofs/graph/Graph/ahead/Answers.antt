use Rattle.patch_graph.proofs.Fronts.{leaves_outside}
use Rattle.patch_graph.proofs.graph.Graph.ahead.Goals as goal

pub returns : goal.returns
returns g c = leaves_outside c.args.self.now c.args.set c.ids.result c.difference.result c.len-len.ensures.kept.earlier
    c.ids.ensures c.difference.ensures
