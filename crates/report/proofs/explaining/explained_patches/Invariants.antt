use Rattle.std.proofs.Common.{◌≡◌}
use Rattle.crash_model.specs.Lists.{some_below}
use Rattle.traced_patches.specs.Traced.{explained_at}
use Rattle.report.proofs.explaining.explained_patches.Given as goal

abbrev pub invariant-loop-id : goal.invariant-loop-id
invariant-loop-id g l = l.patches.items ≡ some_below l.id (explained_at l.traced)
