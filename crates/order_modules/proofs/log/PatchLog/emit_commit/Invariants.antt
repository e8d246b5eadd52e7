use Rattle.std.proofs.Common.{◌≡◌, ◌∷◌, take, length}
use Rattle.order_modules.proofs.log.PatchLog.emit_commit.Given as goal

abbrev pub invariant-loop-target : goal.invariant-loop-target
invariant-loop-target g l =
    l.bytes.items ≡ 0xC7 ∷ l.transaction.op_number ∷ length l.targets ∷ take l.target-index l.targets
