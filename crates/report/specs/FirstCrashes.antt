-- What is reported of a fault, and of the first fault of all.
use Rattle.std.specs.Prelude.{ℕ, List, ◌++◌, ◌≡◌, Option, None, Some}
use Rattle.report.specs.Crashes.{crash_text}
use Rattle.crash_model.specs.Disk.{Disk}
use Rattle.crash_model.specs.declared.patches.Patch.{Patch}
use Rattle.report.specs.Made.{Detail, found_of, crash_of, IsLed}
use Rattle.patch_sets.specs.Writes.{AreRuns}
use Rattle.crash_model.specs.Patches.{homes_of, image_of}
use Rattle.crash_model.specs.Replay.{image_after_replay}
use Rattle.crash_model.specs.declared.fault.Fault.{Fault}
use Rattle.question_model.specs.declared.decided_fault.DecidedFault.{DecidedFault}
use Rattle.crash_model.specs.FirstSets.{HasFault}
use Rattle.question_model.specs.Decided.{IsFirstDecided}
use Rattle.report.specs.Faults.{found_text}
use Rattle.report.specs.Found.{FirstCrash}

-- the fault, and the first set that has it
abbrev pub decided_of : FirstCrash → DecidedFault
decided_of f = record { fault = f.fault.fault; first = f.crash.set }

abbrev pub first_text : FirstCrash → List ℕ
first_text f = found_text f.fault ++ crash_text f.crash

-- what is reported of the fault, with block writes that lead to the set
pub record IsFirstCrash (detail : Detail) (base : Disk) (patches : List Patch) (f : FirstCrash) : Type 0 where
  pub runs : AreRuns (homes_of patches) f.crash.set f.crash.writes
  pub fault : f.fault
      ≡ found_of detail f.crash.set (image_after_replay (image_of base patches f.crash.set)) f.fault.fault
  pub crash : f.crash ≡ crash_of detail base patches f.crash.set f.crash.writes

-- the first fault that any set has, and the first crash that leaves it
pub record IsFirstOfAll (detail : Detail) (base : Disk) (patches : List Patch) (f : FirstCrash) : Type 0 where
  pub decided : IsFirstDecided (HasFault detail.demands base patches) (decided_of f)
  pub made : IsFirstCrash detail base patches f
  pub led : IsLed patches f.crash

-- the same if a set has a fault, otherwise nothing
abbrev pub IsFirstIfAny : Detail → Disk → List Patch → Option FirstCrash → Type 0
IsFirstIfAny detail base patches None = (fault : Fault) (set : ℕ) → ¬ (HasFault detail.demands base patches fault set)
IsFirstIfAny detail base patches (Some f) = IsFirstOfAll detail base patches f
