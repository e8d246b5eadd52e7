-- The sets that fail by a checker that is not strict.
use Rattle.std.specs.Prelude.{ℕ, List}
use Rattle.patch_sets.specs.Closed.{IsClosed}
use Rattle.crash_model.specs.Disk.{Disk}
use Rattle.crash_model.specs.Patches.{deps_of, image_of}
use Rattle.crash_model.specs.Replay.{image_after_replay}
use Rattle.crash_model.specs.Faults.{IsClean}
use Rattle.crash_model.specs.declared.patches.Patch.{Patch}

-- a closed set whose image is not clean after replay
pub record IsFailing (base : Disk) (patches : List Patch) (set : ℕ) : Type 0 where
  pub closed : IsClosed (deps_of patches) set
  pub unclean : ¬ (IsClean (image_after_replay (image_of base patches set)))
