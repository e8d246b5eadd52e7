use Rattle.uniqueness_laws.proofs.OneGraph.{graph_one}
use Rattle.uniqueness_laws.proofs.laws.a_trace_has_at_most_one_graph.Goals as goal

pub returns : goal.returns
returns c = graph_one
