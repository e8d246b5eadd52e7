use Rattle.std.proofs.Common.{◌≡◌, take}
use Rattle.pool_judging.specs.Beginnings.{IsPrefixBy}
use Rattle.pool_judging.specs.Judging.{search_by}
use Rattle.pool_judging.proofs.judge.PoolJudge.prefix_with_keeps.Given as goal

abbrev pub invariant-loop-step : goal.invariant-loop-step
invariant-loop-step g l = record {
  op_numbers : l.prefix.tracer.tracing.op_number ≡ 1;
  are : IsPrefixBy (search_by l.self) (take l.step-index l.self.keeps.now) l.prefix;
}
