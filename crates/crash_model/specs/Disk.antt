-- A disk image as a value: its numbers of blocks, whether its inodes have generations, and its bytes, block after
-- block.
use Rattle.std.specs.Prelude.{◌≡◌, ℕ, ◌+◌, ◌*◌, ◌≤◌, List, [], ◌∷◌, ◌++◌, length, take, drop, slice_index, replicate}
use Rattle.std.specs.Prelude.{Bool, false}
use Rattle.crash_model.specs.declared.disk_bytes.TheConstants.{BLOCK_SIZE, LEAST_BLOCKS, MOST_BLOCKS, OTHER_BLOCKS}
use Rattle.crash_model.specs.declared.disk_bytes.TheConstants.{INODE_BLOCK, JOURNAL_AT, DIRECTORY_KIND}
use Rattle.crash_model.specs.declared.disk_bytes.TheConstants.{DIRECTORY_MARK}

pub record Disk : Type 0 where
  pub blocks : ℕ
  pub journal : ℕ
  pub generations : Bool
  pub bytes : List ℕ

-- the numbers of blocks that a disk may have
pub record IsGeometry (blocks journal : ℕ) : Type 0 where
  pub least : LEAST_BLOCKS ≤ blocks
  pub most : blocks ≤ MOST_BLOCKS
  pub room : journal + OTHER_BLOCKS ≤ blocks

-- 16 to 128 blocks of 128 bytes, of which the journal leaves at least six
pub record IsDisk (d : Disk) : Type 0 where
  pub least : LEAST_BLOCKS ≤ d.blocks
  pub most : d.blocks ≤ MOST_BLOCKS
  pub room : d.journal + OTHER_BLOCKS ≤ d.blocks
  pub whole : length d.bytes ≡ BLOCK_SIZE * d.blocks

-- the byte of a block at an offset
abbrev pub byte : Disk → ℕ → ℕ → ℕ
byte d block offset = slice_index d.bytes (BLOCK_SIZE * block + offset)

-- a block's bytes
abbrev pub block_of : Disk → ℕ → List ℕ
block_of d block = take BLOCK_SIZE (drop (BLOCK_SIZE * block) d.bytes)

-- the list with the new bytes in the place of those from `at` on
unfoldable pub overwrite : List ℕ → ℕ → List ℕ → List ℕ
overwrite xs at new = take at xs ++ new ++ drop (at + length new) xs

-- the disk with the new bytes in a block from an offset on
abbrev pub with_bytes : Disk → ℕ → ℕ → List ℕ → Disk
with_bytes d block offset new = record d { bytes = overwrite d.bytes (BLOCK_SIZE * block + offset) new }

-- all bytes 0
abbrev pub zero_disk : ℕ → ℕ → Disk
zero_disk blocks journal =
    record { blocks = blocks; journal = journal; generations = false; bytes = replicate (BLOCK_SIZE * blocks) 0 }

-- A new disk: the superblock; in use are the blocks up to the root's; inode 0 is a directory
-- with one link and the root's block; the root's block is marked as that of inode 0; all else is 0.
abbrev pub empty_disk : ℕ → ℕ → Disk
empty_disk blocks journal =
    with_bytes (with_bytes (with_bytes (with_bytes (zero_disk blocks journal)
    0 0 (0x53 ∷ blocks ∷ journal ∷ []))
    1 0 (replicate (5 + journal) 1))
    INODE_BLOCK 0 (DIRECTORY_KIND ∷ 1 ∷ 0 ∷ 0 ∷ (JOURNAL_AT + journal) ∷ []))
    (JOURNAL_AT + journal) 0 (DIRECTORY_MARK ∷ 0 ∷ [])
