use Rattle.crash_model.specs.Patches.{deps_of}
use Rattle.patch_graph.specs.Fronts.{Leaves}
use Rattle.patch_graph.proofs.graph.Graph.degree.Given as goal

abbrev pub invariant-loop-next : goal.invariant-loop-next
invariant-loop-next g l = Leaves (deps_of l.self) l.set l.ahead l.count

abbrev pub decreases-loop-next : goal.decreases-loop-next
decreases-loop-next g l = l.ahead
