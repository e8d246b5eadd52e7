use Rattle.std.proofs.Common.{ap, ◌∙◌}
use Rattle.crash_model.specs.Promises.{Promise, paths_show}
use Rattle.report.proofs.ShownWhere.{none_at, one_at}
use Rattle.report.proofs.making.detail.shown_at.Goals as goal

pub returns-in-Some : goal.returns-in-Some
returns-in-Some g c =
    let d = c.args.image.now in
    one_at c.args.promises.now c.args.set d c.args.line c.in-Some.promise.now c.paths_show.result
    c.in-Some.ensures (c.paths_show.ensures ∙ ap (λ (p : Promise). paths_show d p.paths) c.promise.view_is)

pub returns-in-None : goal.returns-in-None
returns-in-None g c = none_at c.args.promises.now c.args.set c.args.image.now c.args.line c.in-None.ensures
