use Rattle.crash_model.specs.Patches.{deps_of}
use Rattle.patch_graph.specs.Fronts.{Leaves}
use Rattle.patch_graph.proofs.graph.Graph.next.Given as goal

abbrev pub invariant-loop-earlier : goal.invariant-loop-earlier
invariant-loop-earlier g l = Leaves (deps_of l.self) l.set l.ahead l._earlier
