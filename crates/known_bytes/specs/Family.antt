-- The closed sets that hold some patches and bar others, and what their images have in common.
use Rattle.std.specs.Prelude.{◌≡◌, ℕ, ◌+◌, ◌-◌, ◌<◌, ◌≤◌, List, length, slice_index, Bool, ◌||◌, ◌==◌}
use Rattle.patch_sets.specs.Sets.{Has, IsSubset}
use Rattle.patch_sets.specs.Closed.{IsClosed}
use Rattle.patch_graph.specs.Graph.{IsAt}
use Rattle.crash_model.specs.Disk.{Disk, IsDisk}
use Rattle.crash_model.specs.Patches.{deps_of, image_of}
use Rattle.crash_model.specs.declared.patches.Patch.{Patch}

-- a base and patches over it, of which some are held and some barred
pub record Family : Type 0 where
  pub base : Disk
  pub patches : List Patch
  pub held : ℕ
  pub barred : ℕ

-- a set that a crash can leave, which has each patch that is held and none that is barred
pub record IsMember (f : Family) (set : ℕ) : Type 0 where
  pub closed : IsClosed (deps_of f.patches) set
  pub held : IsSubset f.held set
  pub barred : (id : ℕ) → Has f.barred id → ¬ (Has set id)

-- the property holds of the image of each such set
abbrev pub InEach : Family → (Disk → Type 0) → Type 0
InEach f P = (set : ℕ) → IsMember f set → P (image_of f.base f.patches set)

-- a disk with as many blocks and journal blocks as another, and with generations if that has them
pub record IsLike (base d : Disk) : Type 0 where
  pub disk : IsDisk d
  pub blocks : d.blocks ≡ base.blocks
  pub journal : d.journal ≡ base.journal
  pub generations : d.generations ≡ base.generations

-- a patch that is neither held nor barred
pub record IsUndecided (f : Family) (id : ℕ) : Type 0 where
  pub known : id < length f.patches
  pub not_held : ¬ (Has f.held id)
  pub not_barred : ¬ (Has f.barred id)

-- a patch has a new byte for a byte of a block, and which
pub record Covers (p : Patch) (block offset : ℕ) : Type 0 where
  pub home : p.block ≡ block
  pub from : p.offset ≤ offset
  pub to : offset < p.offset + length p.new.items

abbrev pub new_byte : Patch → ℕ → ℕ
new_byte p offset = slice_index p.new.items (offset - p.offset)

-- the patch of an id covers a byte of a block
pub record CoversAt (patches : List Patch) (id block offset : ℕ) : Type 0 where
  pub patch : Patch
  pub at : IsAt patches id patch
  pub covers : Covers patch block offset

-- one of two values
abbrev pub is_one_of : ℕ → ℕ → ℕ → Bool
is_one_of value other x = (x == value) || (x == other)

-- a set of bytes, as two sets of numbers below 128, has a byte
pub record HasValue (low high value : ℕ) : Type 0 where
  pub small : value < 128 → Has low value
  pub large : 128 ≤ value → Has high (value - 128)
