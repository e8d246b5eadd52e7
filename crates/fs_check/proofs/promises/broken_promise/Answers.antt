use Rattle.std.proofs.Common.{◌==◌, ◌&&◌, sym, ap, ◌∙◌}
use Rattle.std.specs.Prelude.{Some}
use Rattle.crash_model.specs.Promises.{Promise, is_broken}
use Rattle.fs_check.proofs.FirstFound.{find_more, find_here, find_all}
use Rattle.fs_check.proofs.promises.broken_promise.Goals as goal

pub returns-then-breaks_line : goal.returns-then-breaks_line
returns-then-breaks_line g c =
    let p = c.promise-item.result in
    find_here (λ (q : Promise). q.line == c.args.line && is_broken q c.args.set c.args.image.now) c.args.promises.now
    c.loop-promise.promise-index p c.loop-promise-test.true c.loop-promise.invariant
    (ap (λ (q : Promise). q.line == c.args.line && is_broken q c.args.set c.args.image.now) (sym c.promise-item.is)
    ∙ (sym c.breaks_line.ensures ∙ c.if-breaks_line.true))
    ∙ ap (λ (q : Promise). Some q) (sym c.promise-item.is)

pub loop-promise-preserved : goal.loop-promise-preserved
loop-promise-preserved g c =
    let p = c.promise-item.result in
    find_more (λ (q : Promise). q.line == c.args.line && is_broken q c.args.set c.args.image.now) c.args.promises.now
    c.loop-promise.promise-index p c.loop-promise-test.true c.loop-promise.invariant
    (ap (λ (q : Promise). q.line == c.args.line && is_broken q c.args.set c.args.image.now) (sym c.promise-item.is)
    ∙ (sym c.breaks_line.ensures ∙ c.if-breaks_line.false))

pub returns : goal.returns
returns g c =
    find_all (λ (q : Promise). q.line == c.args.line && is_broken q c.args.set c.args.image.now) c.args.promises.now
    c.loop-promise.promise-index c.loop-promise-test.false c.loop-promise.invariant
