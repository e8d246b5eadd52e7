use Rattle.std.proofs.Common.{◌≡◌, ◌+◌, take}
use Rattle.crash_model.specs.Trace.{copies}
use Rattle.traced_patches.specs.Labels.{origin_by}
use Rattle.order_modules.specs.Log.{Adds}
use Rattle.order_modules.proofs.log.PatchLog.emit_copies.Given as goal

abbrev pub invariant-loop-target : goal.invariant-loop-target
invariant-loop-target g l = record {
  block : l.block ≡ l.transaction.header + 1 + l.target-index;
  adds : Adds l.initial.self l.self (copies l.after l.transaction.op_number (l.transaction.header + 1)
      (origin_by l.transaction.origin) (take l.target-index l.targets));
}
