-- What is reported of crashes.
use Rattle.std.specs.Prelude.{ℕ, List, Bool}
use Rattle.patch_sets.specs.declared.write.BlockWrite.{BlockWrite}
use Rattle.report.specs.declared.replayed.ReplayedBlock.{ReplayedBlock}
use Rattle.report.specs.declared.found.FoundFault.{FoundFault}

-- a crash: the set that it leaves, block writes that lead to it, what replay changes if that is explained, whether that
-- is explained, and whether it is explained what the paths of broken promises show
pub record Crash : Type 0 where
  pub set : ℕ
  pub writes : List BlockWrite
  pub replay : List ReplayedBlock
  pub explained : Bool
  pub shows : Bool

-- a crash, and the faults of its image after replay
pub record Section : Type 0 where
  pub crash : Crash
  pub faults : List FoundFault
