use Rattle.std.proofs.Common.{◌++◌, ◌∷◌, [], refl, arith, ◌∙◌}
use Rattle.crash_model.specs.Tracing.{trace_start}
use Rattle.question_model.specs.Workloads.{IsOfPool, workload_at}
use Rattle.pool_judging.specs.Judging.{search_by}
use Rattle.pool_judging.proofs.Beginnings.{trace_at_one, trace_at_longer, demands_at_longer}
use Rattle.pool_judging.proofs.Pools.{all_in_workload, keeps_of_pool, places_of_pool}
use Rattle.pool_judging.proofs.Refusals.{pool_refused}
use Rattle.pool_judging.proofs.judge.PoolJudge.verdict_on.Goals as goal

pub with_step-requires : goal.with_step-requires
with_step-requires g c = let b = c.requires.prefix.1 in omega (arith, b.op_numbers, b.short)

pub judge_trace-requires : goal.judge_trace-requires
judge_trace-requires g c =
    let s = search_by c.args.self.now in
    let (front, b) = c.requires.prefix in
    let place = c.args.place in
    let prefix = c.args.prefix.now in
    let low = c.requires.among in
    let step = c.index-self-place.result in (
      front ++ place ∷ [],
      trace_at_longer s front place prefix _ step low refl b c.in-Ok.longer c.in-Ok.ensures.ok c.in-Ok.ensures.names,
      demands_at_longer s front place prefix _ step low refl b c.in_ok-demands-in-Ok.demands
          (λ steps are. c.in_ok-demands-in-Ok.ensures steps are c.in-Ok.ensures.ok),
    )

pub returns-in_ok-demands-in-Ok-clause-verdict : goal.returns-in_ok-demands-in-Ok-clause-verdict
returns-in_ok-demands-in-Ok-clause-verdict g c = λ front is.
    let s = search_by c.args.self.now in
    let place = c.args.place in
    let prefix = c.args.prefix.now in
    let low = c.requires.among in
    let step = c.index-self-place.result in
    c.judge_trace.ensures.verdict (front ++ place ∷ [])
    (trace_at_longer s front place prefix _ step low refl is c.in-Ok.longer c.in-Ok.ensures.ok c.in-Ok.ensures.names)
    (demands_at_longer s front place prefix _ step low refl is c.in_ok-demands-in-Ok.demands
    (λ steps are. c.in_ok-demands-in-Ok.ensures steps are c.in-Ok.ensures.ok))

pub refused-requires : goal.refused-requires
refused-requires g c = λ memory.
    let j = c.args.self.now in
    let s = search_by j in
    let (front, b) = c.requires.prefix in
    let places = front ++ c.args.place ∷ [] in
    pool_refused s.ordering (workload_at s places) (trace_start s.whole s.base)
    (all_in_workload s IsOfPool (keeps_of_pool s.keeps j.promises) (places_of_pool s.pool j.places) places)
    c.in-Err.fault
    (trace_at_one s front c.args.place c.args.prefix.now _ c.index-self-place.result c.requires.among refl b
    ∙ c.in-Err.ensures.refused memory)

pub returns-in-Err-clause-verdict : goal.returns-in-Err-clause-verdict
returns-in-Err-clause-verdict g c = λ front is.
    let s = search_by c.args.self.now in
    c.refused.ensures.verdict s (front ++ c.args.place ∷ [])
    (λ memory. trace_at_one s front c.args.place c.args.prefix.now _ c.index-self-place.result c.requires.among refl is
    ∙ c.in-Err.ensures.refused memory)
