use Rattle.std.proofs.Common.{arith}
use Rattle.patch_graph.proofs.graph.Graph.next.Goals as goal

pub unreachable-requires : goal.unreachable-requires
unreachable-requires g c = omega (
  arith,
  c.in-None.ensures.next c.loop-earlier._earlier c.loop-earlier.invariant,
  c.loop-earlier.auto._earlier-end,
  c.requires.below,
)
