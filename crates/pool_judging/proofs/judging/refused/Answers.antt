use Rattle.std.proofs.Common.{sym, ◌∙◌}
use Rattle.pool_judging.proofs.Refusals.{no_memory}
use Rattle.pool_judging.proofs.judging.refused.Goals as goal

pub unreachable-requires : goal.unreachable-requires
unreachable-requires c = c.requires c.in_default.not-OutOfMemory (sym c.of.ensures ∙ c.in-None.is)

pub returns-in-Some-clause-verdict : goal.returns-in-Some-clause-verdict
returns-in-Some-clause-verdict c = λ s places refuses.
    let because = sym c.of.ensures ∙ c.in-Some.is in
    record {
      fault = c.args.fault;
      refused = refuses (no_memory c.args.fault c.in-Some.reason because);
      because = because;
    }
