use Rattle.std.proofs.Common.{take}
use Rattle.crash_model.specs.Patches.{places_of}
use Rattle.traced_patches.specs.Labels.{emitted_by}
use Rattle.order_modules.specs.Log.{Adds}
use Rattle.order_modules.proofs.other_graphs.emit_all.Given as goal

abbrev pub invariant-loop-id : goal.invariant-loop-id
invariant-loop-id g l = Adds l.initial.log l.log (emitted_by (places_of l.graph) (take l.id l.labels))
