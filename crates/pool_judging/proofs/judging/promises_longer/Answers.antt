use Rattle.std.proofs.Common.{◌++◌, ◌∷◌, [], ◌∙◌}
use Rattle.std.proofs.lemmas.Result.{IfOk-weaker}
use Rattle.kept_promises.proofs.Steps.{as_many}
use Rattle.pool_judging.proofs.Beginnings.{promised_copy, promised_longer, promised_all}
use Rattle.pool_judging.proofs.judging.promises_longer.Goals as goal

pub returns : goal.returns
returns g c =
    let x = c.args.step.now in
    let old = c.args.prefix.now in
    let next = c.args.longer.now in
    let copy = c.in_ok-try_copy.field-0 in
    let with_it = c.in_ok-promising.promising in
    let known = c.len-known.ensures.number
    ∙ as_many c.graph.result.now old.tracer.tracing.emitted c.graph.ensures.places in
    IfOk-weaker c.into_promises.result _ _
    (λ promises found s steps are moves.
    let copied = promised_copy s steps old.tracer.tracing old.promising copy are.promises
    c.in_ok-try_copy.ensures.same (c.in_ok-try_copy.ensures.at old.tracer.tracing)
    c.in_ok-try_copy.ensures.durable in
    let promised = promised_longer s steps old.tracer x are.is next copy with_it moves copied
    (c.in_ok-promising.ensures.advanced old.tracer.log.kind old.tracer.tracing next.tracing copied.at
    c.place_of-last.ensures known moves.answered)
    (c.in_ok-promising.ensures.at next.tracing c.place_of-last.ensures) c.in_ok-promising.ensures.durable in
    found next.tracing c.place_of-last.ensures ∙ promised_all s (steps ++ x ∷ []) next.tracing with_it promised)
    c.into_promises.ensures
