use Rattle.std.proofs.lemmas.Result.{err_from_is_err_and}
use Rattle.order_modules.proofs.Steps.{step_taken, step_refused}
use Rattle.order_modules.proofs.tracer.trace.Goals as goal

pub loop-step-preserved : goal.loop-step-preserved
loop-step-preserved g c = step_taken c.args.ordering.now.module c.args.ordering.now.rules.items
    c.args.ordering.now.whole_blocks c.args.image.now c.args.steps.now c.loop-step.step-index c.loop-step.tracer
    c.step-item.result c.loop-step-test.true c.step-item.is c.loop-step.invariant c.step.new.self
    c.in_ok-step.ensures.ok c.in_ok-step.ensures.names

pub returns-in_err-step-clause-refused : goal.returns-in_err-step-clause-refused
returns-in_err-step-clause-refused g c =
    let p = err_from_is_err_and c.from_residual-in_err-step.result c.from_residual-in_err-step.ensures.1 in
    rw (p.1, p.2) (λ other. step_refused c.args.ordering.now.module c.args.ordering.now.rules.items
    c.args.ordering.now.whole_blocks c.args.image.now c.args.steps.now c.loop-step.step-index c.loop-step.tracer
    c.step-item.result c.loop-step-test.true c.step-item.is c.loop-step.invariant _
    (c.in_err-step.ensures.refused other))
