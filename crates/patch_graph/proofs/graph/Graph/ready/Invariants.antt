use Rattle.std.proofs.Common.{◌≡◌}
use Rattle.patch_sets.specs.Ready.{IsReady}
use Rattle.crash_model.specs.Patches.{deps_of}
use Rattle.patch_graph.proofs.Steps.{Collects}
use Rattle.patch_graph.proofs.graph.Graph.ready.Given as goal

abbrev pub invariant-loop-id : goal.invariant-loop-id
invariant-loop-id g l = record {
  patches : l.patch-items ≡ l.self;
  collected : Collects (IsReady (deps_of l.self) l.set) l.id l.ready;
}
