use Rattle.traced_patches.proofs.ForcedBefore.{AreForced}
use Rattle.traced_patches.proofs.labels.forced_before.Given as goal

abbrev pub invariant-loop-place : goal.invariant-loop-place
invariant-loop-place l = AreForced l.waits l.chosen l.line l.place l.forced
