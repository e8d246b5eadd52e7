use Rattle.order_modules.specs.Log.{SharesAt}
use Rattle.patch_graph.proofs.Steps.{Collects}
use Rattle.order_modules.proofs.log.sharing_block.Given as goal

abbrev pub invariant-loop-id : goal.invariant-loop-id
invariant-loop-id g l = Collects (SharesAt l.whole l.graph l.block) l.id l.ids
