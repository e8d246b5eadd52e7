use Rattle.std.proofs.Common.{List, false, sym, ap₂, subst, ◌∙◌}
use Rattle.std.specs.Prelude.{Ok}
use Rattle.crash_model.specs.Promises.{Promise, is_allowed, paths_show}
use Rattle.crash_model.specs.declared.promises.Allowance.{Allowance}
use Rattle.crash_model.specs.declared.showing.Shown.{Shown}
use Rattle.fault_deciding.specs.OfSets.{IsKnownRead}
use Rattle.fault_deciding.proofs.Promised.{none_allowed, allowed_from}
use Rattle.fault_deciding.proofs.promise.is_allowed.Goals as goal

pub returns-in-Some : goal.returns-in-Some
returns-in-Some g c =
    let r = c.args.disk.now in
    let inside = c.promise.inside in
    let shows = c.in_ok-shows.shows.items in
    subst (λ (p : Promise). IsKnownRead r (λ set d. is_allowed p.allowed set (paths_show d p.paths))
    c.are_at_least.result)
    c.promise.view_is
    (allowed_from r inside.allowed.items inside.paths.items shows c.in_ok-shows.ensures.ok c.in-Some.least
    (λ set. ap₂ (λ (allowed : List Allowance) (shown : List Shown). is_allowed allowed set shown)
    (sym c.as_slice.ensures.value) (sym c.as_slice-2.ensures.value) ∙ c.in-Some.ensures set)
    c.are_at_least.result (c.are_at_least.ensures r.family c.requires))

pub returns-in-None : goal.returns-in-None
returns-in-None g c =
    let r = c.args.disk.now in
    let inside = c.promise.inside in
    let shows = c.in_ok-shows.shows.items in
    subst (λ (p : Promise). IsKnownRead r (λ set d. is_allowed p.allowed set (paths_show d p.paths)) (Ok false))
    c.promise.view_is
    (none_allowed r inside.allowed.items inside.paths.items shows c.in_ok-shows.ensures.ok
    (λ set. ap₂ (λ (allowed : List Allowance) (shown : List Shown). is_allowed allowed set shown)
    (sym c.as_slice.ensures.value) (sym c.as_slice-2.ensures.value) ∙ c.in-None.ensures set))
