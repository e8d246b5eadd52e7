use Rattle.std.proofs.Common.{◌+◌}
use Rattle.traced_patches.proofs.ForcedBefore.{AreForced}
use Rattle.enough_deciding.proofs.waiting.forced_up_to.Given as goal

abbrev pub invariant-loop-place : goal.invariant-loop-place
invariant-loop-place l = AreForced l.waits l.chosen (l.line + 1) l.place l.forced
