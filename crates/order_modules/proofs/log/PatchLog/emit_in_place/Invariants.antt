use Rattle.std.proofs.Common.{map, take}
use Rattle.crash_model.specs.Trace.{in_place_patch}
use Rattle.traced_patches.specs.Labels.{origin_by}
use Rattle.order_modules.specs.Log.{Adds}
use Rattle.order_modules.specs.Transactions.{changes_in_place}
use Rattle.order_modules.proofs.log.PatchLog.emit_in_place.Given as goal

abbrev pub invariant-loop-change : goal.invariant-loop-change
invariant-loop-change g l = Adds l.initial.self l.self
    (map (in_place_patch l.op_number (origin_by l.origin)) (changes_in_place l.initial.self.kind
    (take l.change-index l.changes)))
