-- Entries and slots of one inode that are counted, at least and at most.
use Rattle.std.specs.Prelude.{ℕ, ◌<◌, ◌≤◌, length, Option}
use Rattle.crash_model.specs.Disk.{Disk}
use Rattle.crash_model.specs.Lists.{when, some_below}
use Rattle.crash_model.specs.Faults.{leads_to, names_block}
use Rattle.known_bytes.specs.Family.{IsUndecided}
use Rattle.known_bytes.specs.Reading.{Reading, InEachDisk}

-- an entry that leads to an inode, and a slot that names a block
abbrev pub entry_at : Disk → ℕ → ℕ → ℕ → Option (ℕ × ℕ)
entry_at d inode dir k = when (leads_to d dir k inode) (dir, k)

abbrev pub slot_at : Disk → ℕ → ℕ → ℕ → Option (ℕ × ℕ)
slot_at d block inode slot = when (names_block d inode slot block) (inode, slot)

-- how many of the first n there are in a directory, and in an inode
abbrev pub entries_in : ℕ → Disk → ℕ → ℕ → ℕ
entries_in n d inode dir = length (some_below n (entry_at d inode dir))

abbrev pub slots_in : ℕ → Disk → ℕ → ℕ → ℕ
slots_in n d block inode = length (some_below n (slot_at d block inode))

-- on each disk there are at least and at most this many; where these differ, the number depends on an undecided patch
pub record AreBounds (r : Reading) (count : Disk → ℕ) (least most ask : ℕ) : Type 0 where
  pub each : InEachDisk r (λ d. (least ≤ count d) × (count d ≤ most))
  pub asked : least < most → IsUndecided r.family ask
