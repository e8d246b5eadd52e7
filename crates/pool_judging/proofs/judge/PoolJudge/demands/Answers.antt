use Rattle.std.proofs.Common.{refl, sym, ◌∙◌}
use Rattle.pool_judging.specs.Judging.{search_by}
use Rattle.pool_judging.proofs.Demanded.{promising_without, promising_with}
use Rattle.pool_judging.proofs.Workloads.{are_accepted}
use Rattle.pool_judging.proofs.judge.PoolJudge.demands.Goals as goal

pub promises-requires : goal.promises-requires
promises-requires g c = are_accepted (search_by c.args.self.now) c.args.steps.now c.requires

pub returns-then-not-waits_or_promises : goal.returns-then-not-waits_or_promises
returns-then-not-waits_or_promises g c =
    let s = search_by c.args.self.now in
    let image = c.in_ok-of_images.of_images in
    promising_without s.asked s.base c.args.steps.now image image c.counting-counted.result
    c.in_ok-of_images.ensures refl
    c.counting-counted.ensures (sym c.waits_or_promises.ensures ∙ c.if-not-waits_or_promises.true)

pub returns : goal.returns
returns g c =
    let s = search_by c.args.self.now in
    let image = c.in_ok-of_images.of_images in
    promising_with s.asked s.base c.args.steps.now image image c.counting-counted.result c.in_ok-of_images.ensures refl
    c.counting-counted.ensures c.with_promises.result c.in_ok-promises.promises.items c.with_promises.ensures
    (sym c.waits_or_promises.ensures ∙ c.if-not-waits_or_promises.false) c.in_ok-promises.ensures
