use Rattle.recoverable_traces.proofs.Recovering.{recovers, fails_at_risk, ended}
use Rattle.recoverable_traces.proofs.finish.Goals as goal

pub returns-clause-recovers : goal.returns-clause-recovers
returns-clause-recovers g c = λ ordering rules whole base steps of is.
    let t = c.args.tracer in
    let patches = c.into_traced.result.patches in
    recovers ordering rules whole base steps is t.tracing patches of.names of.traced
    (ended ordering rules whole base steps is t patches of c.into_traced.ensures.graph)

pub returns-clause-safe : goal.returns-clause-safe
returns-clause-safe g c = λ ordering rules whole base steps of is.
    let t = c.args.tracer in
    let patches = c.into_traced.result.patches in
    fails_at_risk ordering rules whole base steps is t.tracing patches of.names of.traced
    (ended ordering rules whole base steps is t patches of c.into_traced.ensures.graph)
