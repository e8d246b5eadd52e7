use Rattle.patch_graph.specs.Independent.{StandsOn}
use Rattle.patch_graph.proofs.graph.take_out.Given as goal

abbrev pub invariant-loop-p : goal.invariant-loop-p
invariant-loop-p l = StandsOn l.id l.deps l.p l.initial.independent l.independent
