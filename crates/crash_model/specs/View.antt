-- What a disk holds, without positions and bytes: four sets.
use Rattle.std.specs.Prelude.{◌≡◌, ◌≢◌, ℕ, ◌<◌, List, IsTrue}
use Rattle.crash_model.specs.declared.disk_bytes.TheConstants.{INODES, SLOTS, ENTRIES}
use Rattle.crash_model.specs.Disk.{Disk}
use Rattle.crash_model.specs.Layout.{kind_of, links_of, pointer_of, map_of, is_live, is_data, is_entry, target_of}
use Rattle.crash_model.specs.Layout.{spelling_of, is_pointer}
use Rattle.crash_model.specs.Plan.{name_spelling}

-- a name of a directory leads to an inode
pub record HasName (d : Disk) (dir : ℕ) (name : List ℕ) (inode : ℕ) : Type 0 where
  pub place : ℕ
  pub within : (dir < INODES) × (place < ENTRIES)
  pub used : IsTrue (is_entry d dir place)
  pub spelt : spelling_of d dir place ≡ name_spelling name
  pub target : target_of d dir place ≡ inode

-- a live inode with its kind and link count
pub record HasInode (d : Disk) (inode kind links : ℕ) : Type 0 where
  pub live : IsTrue (is_live d inode)
  pub kind_is : kind_of d inode ≡ kind
  pub links_are : links_of d inode ≡ links

-- a slot of a live inode names a block
pub record HasPointer (d : Disk) (inode slot block : ℕ) : Type 0 where
  pub within : slot < SLOTS
  pub used : IsTrue (is_pointer d inode slot)
  pub block_is : pointer_of d inode slot ≡ block

-- a block of the data area that the allocation map marks as in use
pub record IsUsed (d : Disk) (block : ℕ) : Type 0 where
  pub data_area : IsTrue (is_data d block)
  pub marked : map_of d block ≢ 0

-- names (directory, name, inode), inodes (inode, kind, links), pointers (inode, slot, block), used blocks
pub record View : Type 1 where
  pub name : ℕ → List ℕ → ℕ → Type 0
  pub inode : ℕ → ℕ → ℕ → Type 0
  pub pointer : ℕ → ℕ → ℕ → Type 0
  pub used : ℕ → Type 0

abbrev pub view_of : Disk → View
view_of d = record { name = HasName d; inode = HasInode d; pointer = HasPointer d; used = IsUsed d }
