use Rattle.std.proofs.Common.{◌++◌, ◌∷◌, [], sym, ◌∙◌}
use Rattle.pool_judging.specs.Judging.{search_by}
use Rattle.pool_judging.proofs.Demanded.{promising_without, promising_with}
use Rattle.pool_judging.proofs.judge.PoolJudge.demands_longer.Goals as goal

pub returns-then-not-waits_or_promises : goal.returns-then-not-waits_or_promises
returns-then-not-waits_or_promises g c = λ steps are moves.
    let s = search_by c.args.self.now in
    let so_far = c.in_ok-with_step.ensures s.asked.strict s.asked.atomic s.base steps are.demands in
    promising_without s.asked s.base (steps ++ c.args.step.now ∷ []) c.in_ok-with_step.field-0.demands
    c.into_demands-of_images.result c.counting-counted.result so_far.demands c.into_demands-of_images.ensures
    c.counting-counted.ensures (sym c.waits_or_promises.ensures ∙ c.if-not-waits_or_promises.true)

pub returns : goal.returns
returns g c = λ steps are moves.
    let s = search_by c.args.self.now in
    let so_far = c.in_ok-with_step.ensures s.asked.strict s.asked.atomic s.base steps are.demands in
    promising_with s.asked s.base (steps ++ c.args.step.now ∷ []) c.in_ok-with_step.field-0.demands
    c.into_demands-of_images.result c.counting-counted.result so_far.demands c.into_demands-of_images.ensures
    c.counting-counted.ensures c.with_promises.result c.in_ok-promises.promises.items c.with_promises.ensures
    (sym c.waits_or_promises.ensures ∙ c.if-not-waits_or_promises.false)
    (c.in_ok-promises.ensures s steps are moves)
