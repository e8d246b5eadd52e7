use Rattle.order_modules.proofs.Steps.{IsTraced}
use Rattle.order_modules.proofs.tracer.trace.Given as goal

abbrev pub invariant-loop-step : goal.invariant-loop-step
invariant-loop-step g l = IsTraced l.fn.ordering.«module» l.fn.ordering.rules.items
    l.fn.ordering.whole_blocks l.image l.steps l.step-index l.tracer
