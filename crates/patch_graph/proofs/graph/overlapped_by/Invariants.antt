use Rattle.patch_graph.specs.Graph.{OverlapsAt}
use Rattle.patch_graph.proofs.Steps.{Collects}
use Rattle.patch_graph.proofs.graph.overlapped_by.Given as goal

abbrev pub invariant-loop-id : goal.invariant-loop-id
invariant-loop-id l = Collects (OverlapsAt l.patches l.later) l.id l.ids
