use Rattle.std.proofs.Common.{ℕ, ◌<◌, ◌∙◌, ap, List, length, subst, sym, take_all}
use Rattle.std.specs.List.{All}
use Rattle.question_model.specs.Workloads.{IsOfPool, steps_at}
use Rattle.pool_judging.proofs.Pools.{places_of_pool, one_more}
use Rattle.pool_judging.proofs.copying.steps_at.Goals as goal

pub step_copy-requires : goal.step_copy-requires
step_copy-requires g c =
    let pool = c.args.pool.now in
    let below = subst (λ (places : List ℕ). All (λ place. place < length pool) places)
    (sym c.as_slice-place-items.ensures.value) c.requires.among c.loop-place.place-index 0 c.loop-place-test.true in
    subst IsOfPool (sym c.index-pool-place.is)
    (places_of_pool pool c.requires.pool _ c.index-pool-place.result below)

pub loop-place-preserved : goal.loop-place-preserved
loop-place-preserved g c =
    let pool = c.args.pool.now in
    let i = c.loop-place.place-index in
    let below = subst (λ (places : List ℕ). All (λ place. place < length pool) places)
    (sym c.as_slice-place-items.ensures.value) c.requires.among i 0 c.loop-place-test.true in
    one_more pool c.as_slice-place-items.result.now i c.loop-place.steps.items c.push.new.self.items c.step_copy.result
    c.index-pool-place.result c.loop-place-test.true below (c.step_copy.ensures ∙ c.index-pool-place.is)
    c.loop-place.invariant c.in_ok-push.ensures.items

pub returns : goal.returns
returns g c =
    c.loop-place.invariant
    ∙ ap (steps_at c.args.pool.now)
    (take_all c.loop-place.place-index c.as_slice-place-items.result.now c.loop-place-test.false
    ∙ c.as_slice-place-items.ensures.value)
