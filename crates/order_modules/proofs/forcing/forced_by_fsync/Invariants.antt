use Rattle.crash_model.specs.Patches.{places_of}
use Rattle.traced_patches.specs.Labels.{emitted_by}
use Rattle.order_modules.specs.Forcing.{forces_with}
use Rattle.order_modules.proofs.ForcedIds.{AreForced}
use Rattle.order_modules.proofs.forcing.forced_by_fsync.Given as goal

abbrev pub invariant-loop-id : goal.invariant-loop-id
invariant-loop-id g l =
    AreForced (forces_with l.module l.ranges l.last) (emitted_by (places_of l.graph) l.labels) l.id l.ids
