use Rattle.kept_promises.proofs.Steps.{IsPromising}
use Rattle.kept_promises.proofs.asking.promises.Given as goal

abbrev pub invariant-loop-step : goal.invariant-loop-step
invariant-loop-step g l =
    IsPromising l.fn.ordering.«module» l.fn.is_durable l.base l.steps l.step-index l.tracer l.promising
