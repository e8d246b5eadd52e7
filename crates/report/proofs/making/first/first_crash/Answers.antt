use Rattle.std.proofs.Common.{ap, subst, sym}
use Rattle.patch_sets.specs.Closed.{IsClosed}
use Rattle.crash_model.specs.Patches.{deps_of}
use Rattle.report.specs.FirstCrashes.{IsFirstCrash}
use Rattle.report.specs.Made.{Detail}
use Rattle.report.specs.Makers.{Making}
use Rattle.report.proofs.Firsts.{found_by, first_of_all, none_first}
use Rattle.report.proofs.making.first.first_crash.Goals as goal

pub first-requires : goal.first-requires
first-requires g c =
    let is = found_by c.args.detail c.args.base.now c.args.graph.now c.detail.inside.demands.now _ _
    (ap (λ (d : Detail). d.demands) c.detail.view_is) c.in-Some.is c.in_ok-decided.ensures in
    subst (λ (m : Making). IsClosed (deps_of m.patches) c.in-Some.decided.first) (sym c.in_ok-maker.ensures)
    is.first.among.failing.closed

pub returns-in_default-clause-first : goal.returns-in_default-clause-first
returns-in_default-clause-first g c = λ earlier.
    found_by c.args.detail c.args.base.now c.args.graph.now c.detail.inside.demands.now _ _
    (ap (λ (d : Detail). d.demands) c.detail.view_is) c.in_default.is c.in_ok-decided.ensures

pub returns-clause-first : goal.returns-clause-first
returns-clause-first g c = λ earlier.
    let first = c.in_ok-first.first in
    first_of_all c.args.detail c.args.base.now c.args.graph.now c.in-Some.decided first earlier
    (found_by c.args.detail c.args.base.now c.args.graph.now c.detail.inside.demands.now _ _
    (ap (λ (d : Detail). d.demands) c.detail.view_is) c.in-Some.is c.in_ok-decided.ensures)
    c.in_ok-first.ensures.decided
    (subst (λ (m : Making). IsFirstCrash m.detail m.base m.patches first) c.in_ok-maker.ensures
    c.in_ok-first.ensures.made)

pub returns-clause-safe : goal.returns-clause-safe
returns-clause-safe g c = λ none.
    absurd (none_first c.args.detail c.args.base.now c.args.graph.now c.in-Some.decided none
    (found_by c.args.detail c.args.base.now c.args.graph.now c.detail.inside.demands.now _ _
    (ap (λ (d : Detail). d.demands) c.detail.view_is) c.in-Some.is c.in_ok-decided.ensures))
