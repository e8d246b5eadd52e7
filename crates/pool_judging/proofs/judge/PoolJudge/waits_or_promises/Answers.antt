use Rattle.std.proofs.Common.{not, ap, ◌∙◌}
use Rattle.pool_judging.proofs.Pools.{promising_keeps, promising_pool}
use Rattle.pool_judging.proofs.judge.PoolJudge.waits_or_promises.Goals as goal

pub returns-then-not-is_empty : goal.returns-then-not-is_empty
returns-then-not-is_empty g c =
    let j = c.args.self.now in
    ap not c.if-not-is_empty.true
    ∙ promising_keeps j.keeps.now j.pool.now c.is_empty.result j.promises c.is_empty.ensures c.if-not-is_empty.true

pub returns-else-not-is_empty : goal.returns-else-not-is_empty
returns-else-not-is_empty g c =
    let j = c.args.self.now in
    promising_pool j.keeps.now j.pool.now c.is_empty.result c.has_waiting.result j.places c.is_empty.ensures
    c.if-not-is_empty.false c.has_waiting.ensures
