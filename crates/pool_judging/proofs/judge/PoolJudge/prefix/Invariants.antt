use Rattle.pool_judging.specs.Judging.{search_by}
use Rattle.pool_judging.proofs.Beginnings.{IsPrefixTo}
use Rattle.pool_judging.proofs.judge.PoolJudge.prefix.Given as goal

abbrev pub invariant-loop-place : goal.invariant-loop-place
invariant-loop-place g l = IsPrefixTo (search_by l.self) l.place-items l.place-index l.prefix
