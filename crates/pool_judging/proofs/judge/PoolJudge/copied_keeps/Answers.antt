use Rattle.std.proofs.Common.{subst, sym}
use Rattle.question_model.specs.Workloads.{IsOfPool}
use Rattle.pool_judging.proofs.Pools.{keeps_of_pool}
use Rattle.pool_judging.proofs.judge.PoolJudge.copied_keeps.Goals as goal

pub step_copy-requires : goal.step_copy-requires
step_copy-requires g c =
    let keeps = c.args.self.now.keeps.now in
    subst IsOfPool (sym c.step-item.is)
    (keeps_of_pool keeps c.args.self.now.promises c.loop-step.step-index c.step-item.result c.loop-step-test.true)
