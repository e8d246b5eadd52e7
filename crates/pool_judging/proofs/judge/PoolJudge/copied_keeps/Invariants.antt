use Rattle.std.proofs.Common.{◌≡◌, take}
use Rattle.pool_judging.proofs.judge.PoolJudge.copied_keeps.Given as goal

abbrev pub invariant-loop-step : goal.invariant-loop-step
invariant-loop-step g l = l.steps.items ≡ take l.step-index l.self.keeps.now
