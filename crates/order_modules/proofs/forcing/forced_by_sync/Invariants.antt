use Rattle.std.proofs.Common.{map}
use Rattle.crash_model.specs.Waiting.{sync_forces}
use Rattle.traced_patches.specs.Labels.{emitted_of}
use Rattle.order_modules.proofs.ForcedIds.{AreForced}
use Rattle.order_modules.proofs.forcing.forced_by_sync.Given as goal

abbrev pub invariant-loop-id : goal.invariant-loop-id
invariant-loop-id l = AreForced (sync_forces l.module) (map emitted_of l.labels) l.id l.ids
