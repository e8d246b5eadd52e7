use Rattle.std.proofs.Common.{◌≡◌, List, true, sym, ap, subst, ◌∙◌}
use Rattle.crash_model.specs.Promises.{Promise, is_allowed, is_spared, paths_show}
use Rattle.crash_model.specs.declared.promises.Spare.{Spare as StandIn}
use Rattle.known_bytes.specs.Family.{Family}
use Rattle.known_bytes.specs.Reading.{Reading}
use Rattle.fault_deciding.specs.OfSets.{InEachRead, IsKnownOfSets, AreIdsOf, is_excused}
use Rattle.fault_deciding.proofs.Promised.{of_replayed, read_of_disks}
use Rattle.fault_deciding.proofs.promise.is_excused.Goals as goal

pub is_surely_excused-requires : goal.is_surely_excused-requires
is_surely_excused-requires g c =
    c.held-held.ensures ∙ sym (ap (λ (r : Reading). r.family.held) c.in_ok-disk.ensures.ok)

pub returns-then-is_surely_excused : goal.returns-then-is_surely_excused
returns-then-is_surely_excused g c =
    subst (λ (r : Reading). InEachRead r (λ set d. is_excused c.args.promise.now set d ≡ true))
    c.in_ok-disk.ensures.ok (c.is_surely_excused.ensures c.if-is_surely_excused.true)

pub is_allowed-requires : goal.is_allowed-requires
is_allowed-requires g c =
    let ids : AreIdsOf c.args.bytes c.held-held.result c.undecided-undecided.result = record {
      is_held = c.held-held.ensures;
      is_open = c.undecided-undecided.ensures;
    } in
    subst (λ (f : Family). AreIdsOf f c.held-held.result c.undecided-undecided.result)
    (sym (ap (λ (r : Reading). r.family) c.in_ok-disk.ensures.ok))
    ids

pub returns : goal.returns
returns g c =
    let disk = c.in_ok-disk.disk in
    let promise = c.args.promise.now in
    let allowed = of_replayed c.args.bytes disk
    (λ set d. is_allowed promise.allowed set (paths_show d promise.paths)) c.is_allowed.result c.in_ok-disk.ensures.ok
    c.is_allowed.ensures in
    let listed = c.as_slice.result.now in
    let same : listed ≡ promise.spares = c.as_slice.ensures.value ∙ ap (λ (p : Promise). p.spares) c.promise.view_is in
    let spared = subst
    (λ (spares : List StandIn). IsKnownOfSets c.args.bytes (λ set d. is_spared spares d) c.is_spared-spared.result) same
    (of_replayed c.args.bytes disk (λ set d. is_spared listed d) c.is_spared-spared.result c.in_ok-disk.ensures.ok
    (read_of_disks disk (is_spared listed) c.is_spared-spared.result c.is_spared-spared.ensures)) in
    c.either.ensures c.args.bytes (λ set d. is_allowed promise.allowed set (paths_show d promise.paths))
    (λ set d. is_spared promise.spares d) allowed spared
