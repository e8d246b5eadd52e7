use Rattle.std.proofs.Common.{◌∙◌}
use Rattle.std.proofs.lemmas.Result.{IfOk-weaker}
use Rattle.kept_promises.proofs.Steps.{begin, step_accepted, step_goes, step_taken, ended, as_many}
use Rattle.kept_promises.proofs.asking.promises.Goals as goal

pub loop-step-init : goal.loop-step-init
loop-step-init g c =
    let tracer = c.in_ok-tracer.tracer in
    begin c.args.ordering.now.module c.args.is_durable c.args.base.now c.args.steps.now c.args.ordering.now.whole_blocks
    tracer c.new-promising.result c.in_ok-tracer.ensures.ordering.0 c.in_ok-tracer.ensures.started.0 c.requires
    c.new-promising.ensures.none (c.new-promising.ensures.at tracer.tracing) c.new-promising.ensures.durable

pub take-requires-clause-accepted : goal.take-requires-clause-accepted
take-requires-clause-accepted g c =
    step_accepted c.args.ordering.now.module c.args.is_durable c.args.base.now c.args.steps.now c.loop-step.step-index
    c.loop-step.tracer c.loop-step.promising c.step-item.result c.loop-step-test.true c.step-item.is
    c.loop-step.invariant

pub loop-step-preserved : goal.loop-step-preserved
loop-step-preserved g c =
    let kind = c.args.ordering.now.module in
    let is_durable = c.args.is_durable in
    let base = c.args.base.now in
    let steps = c.args.steps.now in
    let i = c.loop-step.step-index in
    let before = c.loop-step.tracer in
    let after = c.take.new.tracer in
    let promising = c.loop-step.promising in
    let x = c.step-item.result in
    let inside = c.loop-step-test.true in
    let read = c.step-item.is in
    let is = c.loop-step.invariant in
    let moves = c.in_ok-take.ensures.moves in
    step_taken kind is_durable base steps i before promising x inside read is after c.in_ok-promising.promising moves
    (c.in_ok-promising.ensures.advanced kind before.tracing after.tracing is.at c.place_of.ensures
    (c.len-known.ensures.number ∙ as_many c.graph.result.now before.tracing.emitted c.graph.ensures.places)
    (step_goes kind is_durable base steps i before promising x inside read is after moves))
    (c.in_ok-promising.ensures.at after.tracing c.place_of.ensures) c.in_ok-promising.ensures.durable

pub returns : goal.returns
returns g c =
    let last = c.loop-step.tracer in
    IfOk-weaker c.into_promises.result _ _
    (λ promises found. found last.tracing c.place_of-2.ensures
    ∙ ended c.args.ordering.now.module c.args.is_durable c.args.base.now c.args.steps.now c.loop-step.step-index last
    c.loop-step.promising c.loop-step-test.false c.loop-step.invariant)
    c.into_promises.ensures
