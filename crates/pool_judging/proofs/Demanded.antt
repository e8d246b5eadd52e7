-- What steps of a pool demand.
use Rattle.std.proofs.Common.{◌≡◌, List, Bool, true, false, Some, refl, sym, ap, subst, ◌∙◌}
use Rattle.crash_model.specs.Checker.{Demands, Asked, AreDemands}
use Rattle.crash_model.specs.Disk.{Disk}
use Rattle.crash_model.specs.Lists.{when}
use Rattle.crash_model.specs.Promises.{Promise, promises_of}
use Rattle.crash_model.specs.declared.steps.Step.{Step}
use Rattle.inode_fs.specs.Demanding.{AreImageDemands}

module _ (asked : Asked) (base : Disk) (steps : List Step) (found image counted : Demands)
    (are : AreImageDemands asked.strict asked.atomic base steps found) (same : image ≡ found)
    (counts : counted ≡ record image { counted = asked.counted }) where
  counts_found : counted ≡ record found { counted = asked.counted }
  counts_found = counts ∙ ap (λ (d : Demands). record d { counted = asked.counted }) same

  -- where no line of the pool waits or promises
  pub promising_without : asked.promising ≡ false → AreDemands asked base steps counted
  promising_without none = subst (AreDemands asked base steps) (sym counts_found) (record {
    kept = are.kept;
    disks = are.disks;
    promises = are.promises
        ∙ ap (λ (b : Bool). when b (promises_of asked.kind asked.durable base steps)) (sym none);
    counted = refl;
  })

  -- where one does
  pub promising_with : (made : Demands) (promises : List Promise) → made ≡ record counted { promises = Some promises }
      → asked.promising ≡ true → promises ≡ promises_of asked.kind asked.durable base steps
      → AreDemands asked base steps made
  promising_with made promises with_them some is = subst (AreDemands asked base steps)
      (sym (with_them ∙ ap (λ (d : Demands). record d { promises = Some promises }) counts_found)) (record {
        kept = are.kept;
        disks = are.disks;
        promises = ap (λ (ps : List Promise). Some ps) is
            ∙ ap (λ (b : Bool). when b (promises_of asked.kind asked.durable base steps)) (sym some);
        counted = refl;
      })
