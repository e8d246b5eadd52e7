use Rattle.std.proofs.Common.{◌≡◌, false, take}
use Rattle.crash_model.specs.PromiseLines.{has_promises}
use Rattle.kept_promises.proofs.asking.has_promises.Given as goal

abbrev pub invariant-loop-step : goal.invariant-loop-step
invariant-loop-step l = has_promises (take l.step-index l.steps) ≡ false
