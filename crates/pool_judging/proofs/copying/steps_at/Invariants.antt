use Rattle.std.proofs.Common.{◌≡◌, take}
use Rattle.question_model.specs.Workloads.{steps_at}
use Rattle.pool_judging.proofs.copying.steps_at.Given as goal

abbrev pub invariant-loop-place : goal.invariant-loop-place
invariant-loop-place g l = l.steps.items ≡ steps_at l.pool (take l.place-index l.place-items)
