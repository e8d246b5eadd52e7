use Rattle.std.proofs.Common.{refl}
use Rattle.enough_deciding.specs.Rules.{tracing_of}
use Rattle.enough_deciding.proofs.oracle.RuleOracle.first_fault.Goals as goal

pub returns : goal.returns
returns g c =
    let base = c.args.self.now.base.now in
    let t = c.args.self.now.traced.now in (
      c.in_ok-graph.graph,
      c.in_ok-graph.ensures.graph (tracing_of base t) (record { emitted = refl; links = refl; whole = refl }),
      c.in_ok-found.ensures,
    )
