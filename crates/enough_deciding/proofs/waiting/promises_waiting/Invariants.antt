use Rattle.std.proofs.Common.{◌≡◌, map, take}
use Rattle.crash_model.specs.ChosenWaits.{promise_waiting}
use Rattle.traced_patches.specs.Labels.{waits_by}
use Rattle.enough_deciding.proofs.waiting.promises_waiting.Given as goal

abbrev pub invariant-loop-promise : goal.invariant-loop-promise
invariant-loop-promise g l =
    l.changed.items ≡ map (promise_waiting (waits_by l.waits) l.chosen) (take l.promise-index l.promises)
