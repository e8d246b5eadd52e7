use Rattle.traced_patches.specs.Labels.{links_by}
use Rattle.order_modules.specs.Log.{WaitsAt}
use Rattle.patch_graph.proofs.Steps.{Collects}
use Rattle.order_modules.proofs.log.dependencies.Given as goal

abbrev pub invariant-loop-id : goal.invariant-loop-id
invariant-loop-id l = Collects (WaitsAt l.rules (links_by l.links) l.labels l.later) l.id l.ids
