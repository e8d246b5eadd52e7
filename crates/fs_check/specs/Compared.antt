-- The blocks of a disk that are compared, as a set, found inode by inode.
use Rattle.std.specs.Prelude.{◌≡◌, ℕ, ◌<◌, ◌≤◌, ◌⊎◌, ◌↔◌, true}
use Rattle.crash_model.specs.declared.disk_bytes.TheConstants.{SLOTS}
use Rattle.patch_sets.specs.Sets.{Has}
use Rattle.crash_model.specs.Disk.{Disk}
use Rattle.crash_model.specs.Layout.{pointer_of, is_pointer}
use Rattle.crash_model.specs.Atomic.{is_compared}

-- the set has exactly the disk's blocks that are compared
abbrev pub AreCompared : Disk → ℕ → Type 0
AreCompared d set = (block : ℕ) → (Has set block ↔ ((block < d.blocks) × (is_compared d block ≡ true)))

-- one of the first n slots of a live inode names the block, which is one of the disk
pub record IsInSlot (d : Disk) (inode n block : ℕ) : Type 0 where
  pub slot : ℕ
  pub less : slot < n
  pub points : is_pointer d inode slot ≡ true
  pub at : pointer_of d inode slot ≡ block
  pub below : block < d.blocks

-- the set has the block of a slot
abbrev pub HasSlot : Disk → ℕ → ℕ → ℕ → Type 0
HasSlot d inode slot set =
    is_pointer d inode slot ≡ true → pointer_of d inode slot < d.blocks → Has set (pointer_of d inode slot)

-- the set with the blocks of the first n slots of an inode
pub record AreWithSlots (d : Disk) (inode n old new : ℕ) : Type 0 where
  pub only : (block : ℕ) → Has new block → Has old block ⊎ IsInSlot d inode n block
  pub stays : (block : ℕ) → Has old block → Has new block
  pub slots : (slot : ℕ) → slot < n → HasSlot d inode slot new

-- the map, the inodes, and the blocks of the first n inodes
pub record AreFound (d : Disk) (n set : ℕ) : Type 0 where
  pub only : (block : ℕ) → Has set block
      → ((1 ≤ block) × (block ≤ 3)) ⊎ ((inode : ℕ) × (inode < n) × IsInSlot d inode SLOTS block)
  pub low : (block : ℕ) → 1 ≤ block → block ≤ 3 → Has set block
  pub slots : (inode : ℕ) → inode < n → (slot : ℕ) → slot < SLOTS → HasSlot d inode slot set
