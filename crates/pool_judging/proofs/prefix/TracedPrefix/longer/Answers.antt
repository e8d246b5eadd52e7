use Rattle.std.proofs.Common.{◌∙◌}
use Rattle.kept_promises.proofs.Steps.{as_many}
use Rattle.pool_judging.proofs.Beginnings.{trace_longer, promised_longer}
use Rattle.pool_judging.proofs.prefix.TracedPrefix.longer.Goals as goal

pub returns-clause-prefix : goal.returns-clause-prefix
returns-clause-prefix g c = λ s steps are.
    let old = c.args.self.tracer in
    let next = c.take.new.tracer in
    let x = c.args.step.now in
    let moves = c.in_ok-take.ensures.moves in
    let known = c.len-known.ensures.number ∙ as_many c.graph.result.now old.tracing.emitted c.graph.ensures.places in
    record {
      is = trace_longer s steps old x are.is next moves c.in_ok-take.ensures.names;
      demands = c.in_ok-step.ensures s.asked.strict s.asked.atomic s.base steps are.demands;
      promises = promised_longer s steps old x are.is next c.args.self.promising c.in_ok-promising.promising moves
          are.promises
          (c.in_ok-promising.ensures.advanced old.log.kind old.tracing next.tracing are.promises.at c.place_of.ensures
          known moves.answered)
          (c.in_ok-promising.ensures.at next.tracing c.place_of.ensures) c.in_ok-promising.ensures.durable;
    }

pub returns-clause-moves : goal.returns-clause-moves
returns-clause-moves g c = c.in_ok-take.ensures.moves
