-- Where a script keeps inodes, an image is clean exactly if none of the six faults holds and neither of the two
-- others.
use Rattle.std.proofs.Common.{◌≡◌, ℕ, []}
use Rattle.crash_model.specs.Disk.{Disk}
use Rattle.crash_model.specs.Lists.{some_below, when}
use Rattle.crash_model.specs.Faults.{IsClean, faults}
use Rattle.crash_model.specs.Checker.{IsCleanKeeping}
use Rattle.crash_model.specs.Strict.{is_lost, lacks_block, strict_faults, LosesNothing}
use Rattle.crash_model.specs.declared.fault.Fault.TheVariants.{Lost, NoBlock}
use Rattle.crash_model.proofs.Clean.{nil_left, nil_right, nil_both, some_none, none_some}
use Rattle.std.specs.Prelude.{Some}

module _ (kept : ℕ) (d : Disk) where
  pub loses_from_none : strict_faults kept d ≡ [] → LosesNothing kept d
  unfolding strict_faults
  loses_from_none none = record {
    no_lost = some_none (is_lost d kept) Lost 16 (nil_left _ (some_below 16 (λ i. when (lacks_block d i) (NoBlock i)))
        none);
    no_bare = some_none (lacks_block d) NoBlock 16 (nil_right (some_below 16 (λ i. when (is_lost d kept i) (Lost i)))
        _ none);
  }

  pub none_from_loses : LosesNothing kept d → strict_faults kept d ≡ []
  unfolding strict_faults
  none_from_loses loses = nil_both _ _ (none_some (is_lost d kept) Lost 16 loses.no_lost)
      (none_some (lacks_block d) NoBlock 16 loses.no_bare)

  pub clean_keeping : IsClean d → LosesNothing kept d → IsCleanKeeping (Some kept) d
  clean_keeping clean loses = record {
    faultless = nil_both (faults d) (strict_faults kept d) clean.faultless
        (none_from_loses loses);
  }

  pub clean_from_keeping : IsCleanKeeping (Some kept) d → IsClean d
  clean_from_keeping keeping = record { faultless = nil_left (faults d) (strict_faults kept d) keeping.faultless }

  pub loses_from_keeping : IsCleanKeeping (Some kept) d → LosesNothing kept d
  loses_from_keeping keeping = loses_from_none (nil_right (faults d) (strict_faults kept d) keeping.faultless)
