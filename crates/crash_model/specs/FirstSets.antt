-- A set that has a fault, and the first of some sets.
use Rattle.std.specs.Prelude.{ℕ, List}
use Rattle.std.specs.List.{Contains}
use Rattle.patch_sets.specs.Sets.{IsBefore}
use Rattle.crash_model.specs.Disk.{Disk}
use Rattle.crash_model.specs.Patches.{image_of}
use Rattle.crash_model.specs.Replay.{image_after_replay}
use Rattle.crash_model.specs.Checker.{Demands, faults_under, IsFailingUnder}
use Rattle.crash_model.specs.declared.fault.Fault.{Fault}
use Rattle.crash_model.specs.declared.patches.Patch.{Patch}

-- a failing set whose image has the fault after replay
pub record HasFault (demands : Demands) (base : Disk) (patches : List Patch) (fault : Fault) (set : ℕ) : Type 0 where
  pub failing : IsFailingUnder demands base patches set
  pub found : Contains (faults_under demands set (image_after_replay (image_of base patches set))) fault

-- the first of the sets with a property, in canonical order
pub record IsFirst (P : ℕ → Type 0) (set : ℕ) : Type 0 where
  pub among : P set
  pub first : (other : ℕ) → P other → ¬ (IsBefore other set)
