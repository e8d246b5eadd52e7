-- Which blocks of two disks differ.
use Rattle.std.specs.Prelude.{◌≡◌, ℕ, ◌<◌}
use Rattle.patch_sets.specs.Sets.{Has}
use Rattle.crash_model.specs.Disk.{Disk, block_of}

-- blocks outside a set are the same
pub record DifferAtMost (set : ℕ) (d e : Disk) : Type 0 where
  pub same : (block : ℕ) → block < d.blocks → ¬ (Has set block) → block_of e block ≡ block_of d block
