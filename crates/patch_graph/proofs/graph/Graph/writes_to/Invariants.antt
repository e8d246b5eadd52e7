use Rattle.crash_model.specs.Patches.{homes_of}
use Rattle.patch_graph.proofs.Rest.{IsRest}
use Rattle.patch_graph.proofs.graph.Graph.writes_to.Given as goal

abbrev pub invariant-loop-id : goal.invariant-loop-id
invariant-loop-id g l = IsRest (homes_of l.self) l.set l.left l.writes.items

abbrev pub decreases-loop-id : goal.decreases-loop-id
decreases-loop-id g l = l.left
