use Rattle.pool_judging.proofs.traces.fails_in.Goals as goal

pub returns : goal.returns
returns g c = record {
  patches = c.in_ok-graph.graph;
  graph = c.in_ok-graph.ensures.graph;
  answer = c.in_ok-fails.ensures;
}
