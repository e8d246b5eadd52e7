use Rattle.std.proofs.Common.{map, take}
use Rattle.traced_patches.specs.Labels.{origin_by}
use Rattle.order_modules.specs.Log.{Adds}
use Rattle.order_modules.specs.Transactions.{changes_ahead, file_data}
use Rattle.order_modules.proofs.log.PatchLog.emit_file_data.Given as goal

abbrev pub invariant-loop-change : goal.invariant-loop-change
invariant-loop-change g l = Adds l.initial.self l.self
    (map (file_data l.op_number (origin_by l.origin))
    (changes_ahead l.initial.self.kind (take l.change-index l.changes)))
