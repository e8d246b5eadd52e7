use Rattle.std.proofs.Common.{ℕ, ◌<◌, ◌∙◌, ap, List, length, subst, sym, take_all}
use Rattle.std.specs.List.{All}
use Rattle.question_model.specs.Workloads.{workload_at}
use Rattle.pool_judging.specs.Judging.{search_by}
use Rattle.pool_judging.proofs.Pools.{workload_none, places_of_pool, step_more}
use Rattle.pool_judging.proofs.judge.PoolJudge.workload_at.Goals as goal

pub loop-place-init : goal.loop-place-init
loop-place-init g c = c.in_ok-steps.ensures ∙ workload_none (search_by c.args.self.now)

pub step_copy-requires : goal.step_copy-requires
step_copy-requires g c =
    let pool = c.args.self.now.pool.now in
    let below = subst (λ (places : List ℕ). All (λ place. place < length pool) places)
    (sym c.as_slice-place-items.ensures.value) c.requires c.loop-place.place-index 0 c.loop-place-test.true in
    places_of_pool pool c.args.self.now.places _ c.index-self-place.result below

pub loop-place-preserved : goal.loop-place-preserved
loop-place-preserved g c =
    let s = search_by c.args.self.now in
    let i = c.loop-place.place-index in
    let below = subst (λ (places : List ℕ). All (λ place. place < length s.pool) places)
    (sym c.as_slice-place-items.ensures.value) c.requires i 0 c.loop-place-test.true in
    step_more s c.as_slice-place-items.result.now i c.loop-place.steps.items c.push.new.self.items c.step_copy.result
    c.index-self-place.result c.loop-place-test.true below c.step_copy.ensures c.loop-place.invariant
    c.in_ok-push.ensures.items

pub returns : goal.returns
returns g c =
    let s = search_by c.args.self.now in
    c.loop-place.invariant
    ∙ ap (workload_at s) (take_all c.loop-place.place-index c.as_slice-place-items.result.now c.loop-place-test.false
    ∙ c.as_slice-place-items.ensures.value)
