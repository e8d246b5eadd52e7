use Rattle.std.proofs.Common.{◌≡◌, take}
use Rattle.question_model.specs.Workloads.{workload_at}
use Rattle.pool_judging.specs.Judging.{search_by}
use Rattle.pool_judging.proofs.judge.PoolJudge.workload_at.Given as goal

abbrev pub invariant-loop-place : goal.invariant-loop-place
invariant-loop-place g l = l.steps.items ≡ workload_at (search_by l.self) (take l.place-index l.place-items)
