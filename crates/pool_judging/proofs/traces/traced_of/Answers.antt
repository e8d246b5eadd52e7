use Rattle.std.proofs.Common.{sym}
use Rattle.std.proofs.Math.Logic.{∥∥₁_elim}
use Rattle.pool_judging.specs.Judging.{search_by}
use Rattle.pool_judging.proofs.Workloads.{never_refused}
use Rattle.pool_judging.proofs.traces.traced_of.Goals as goal

pub returns-in-Ok-clause-traced : goal.returns-in-Ok-clause-traced
returns-in-Ok-clause-traced g c =
    let ok = c.in-Ok.ensures.ok in
    record {
      last = ok.0;
      run = ok.1;
      graph = ok.2;
      of_it = record { emitted = sym ok.3; links = sym ok.4; whole = sym ok.5 };
      rules = c.in-Ok.ensures.rules;
    }

pub unreachable-requires : goal.unreachable-requires
unreachable-requires g c =
    ∥∥₁_elim c.requires (hlevel) (λ traced. never_refused (search_by c.args.judge.now) c.args.steps.now c.in-Err.fault
    traced (c.in-Err.ensures.refused c.in_default.not-OutOfMemory))
