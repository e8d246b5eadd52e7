use Rattle.std.proofs.Common.{sym, ◌∙◌}
use Rattle.order_modules.proofs.other_graphs.graph_by.Goals as goal

pub graph_with-requires-clause-fits : goal.graph_with-requires-clause-fits
graph_with-requires-clause-fits g c = c.requires

pub graph_with-requires-clause-each : goal.graph_with-requires-clause-each
graph_with-requires-clause-each g c = c.labels.ensures.each

pub returns-clause-graph : goal.returns-clause-graph
returns-clause-graph g c = λ s emitted links whole.
    c.in_ok-graph.ensures.graph s (emitted ∙ sym c.labels.ensures.emitted) links whole

pub returns-clause-fits : goal.returns-clause-fits
returns-clause-fits g c = c.in_ok-graph.ensures.fits
