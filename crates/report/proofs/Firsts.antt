-- The first crash of a graph.
use Rattle.std.proofs.Common.{◌≡◌, ℕ, List, sym, subst}
use Rattle.std.specs.Prelude.{Option, None}
use Rattle.patch_sets.specs.Closed.{AreEarlier}
use Rattle.crash_model.specs.Checker.{Demands, IsFailingUnder}
use Rattle.crash_model.specs.Disk.{Disk}
use Rattle.crash_model.specs.FirstSets.{HasFault}
use Rattle.crash_model.specs.Patches.{deps_of}
use Rattle.crash_model.specs.declared.patches.Patch.{Patch}
use Rattle.fault_deciding.specs.Asked.{IsFirstFault}
use Rattle.fault_deciding.proofs.Firsts.{some_fault}
use Rattle.question_model.specs.Decided.{IsFirstDecided}
use Rattle.question_model.specs.declared.decided_fault.DecidedFault.{DecidedFault}
use Rattle.report.specs.Made.{Detail}
use Rattle.report.specs.FirstCrashes.{IsFirstCrash, decided_of}
use Rattle.report.specs.FirstCrashes.{IsFirstIfAny, IsFirstOfAll}
use Rattle.report.specs.Found.{FirstCrash}
use Rattle.report.proofs.Leading.{crash_leads}

module _ (detail : Detail) (base : Disk) (patches : List Patch) where
  -- what is found by the same demands
  pub found_by : (demands : Demands) (found same : Option DecidedFault) → demands ≡ detail.demands → found ≡ same
      → IsFirstFault (HasFault demands base patches) found → IsFirstFault (HasFault detail.demands base patches) same
  found_by demands found same asked is first = subst (IsFirstFault (HasFault detail.demands base patches)) is
      (subst (λ (k : Demands). IsFirstFault (HasFault k base patches) found) asked first)

  -- the crash that leaves the first set with the first fault
  pub first_of_all : (decided : DecidedFault) (f : FirstCrash) → AreEarlier (deps_of patches)
      → IsFirstDecided (HasFault detail.demands base patches) decided → decided_of f ≡ decided
      → IsFirstCrash detail base patches f → IsFirstOfAll detail base patches f
  first_of_all decided f earlier is same made =
      let of_it = subst (IsFirstDecided (HasFault detail.demands base patches)) (sym same) is in
      record {
        decided = of_it;
        made = made;
        led = crash_leads patches earlier f.crash of_it.first.among.failing.closed made.runs;
      }

  -- where no set fails there is no first fault
  pub none_first : (decided : DecidedFault) → ((set : ℕ) → ¬ (IsFailingUnder detail.demands base patches set))
      → ¬ (IsFirstDecided (HasFault detail.demands base patches) decided)
  none_first decided none is = none decided.first is.first.among.failing

  -- where there is no first crash no set fails
  pub none_fails : IsFirstIfAny detail base patches None → (set : ℕ)
      → ¬ (IsFailingUnder detail.demands base patches set)
  none_fails none set failing =
      let fault = some_fault detail.demands (record { base = base; patches = patches }) set failing in
      none fault.0 set fault.1
