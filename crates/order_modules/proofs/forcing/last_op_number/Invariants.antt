use Rattle.crash_model.specs.Patches.{places_of}
use Rattle.traced_patches.specs.Labels.{emitted_by}
use Rattle.order_modules.specs.Forcing.{has_contents}
use Rattle.order_modules.proofs.ForcedIds.{IsLast}
use Rattle.order_modules.proofs.forcing.last_op_number.Given as goal

abbrev pub invariant-loop-id : goal.invariant-loop-id
invariant-loop-id g l = IsLast (has_contents l.ranges) (emitted_by (places_of l.graph) l.labels) l.id l.last
