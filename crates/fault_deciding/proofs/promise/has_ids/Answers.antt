use Rattle.std.proofs.Common.{◌&&◌, subst}
use Rattle.crash_model.specs.Promises.{Promise, has_all, has_none}
use Rattle.fault_deciding.specs.OfSets.{IsKnownOfSets, AreIdsOf}
use Rattle.fault_deciding.proofs.promise.has_ids.Goals as goal

pub returns : goal.returns
returns g c =
    let f = c.args.bytes.now in
    let are : AreIdsOf f c.held-held.result c.undecided-undecided.result = record {
      is_held = c.held-held.ensures;
      is_open = c.undecided-undecided.ensures;
    } in
    subst (λ (p : Promise). IsKnownOfSets f (λ set d. has_all set p.after && has_none set p.ends) c.both.result)
    c.promise.view_is
    (c.both.ensures f (λ set d. has_all set c.promise.inside.after) (λ set d. has_none set c.promise.inside.ends)
    (c.have_all.ensures f are) (c.have_none.ensures f are))
