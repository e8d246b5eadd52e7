-- What the checker knows of the pointers and the entries that it has passed.
use Rattle.std.specs.Prelude.{◌≡◌, ℕ, ◌<◌, ◌≤◌, List, length, slice_index, Bool, false, ◌&&◌, ◌||◌, ◌==◌, not, Option}
use Rattle.crash_model.specs.declared.disk_bytes.TheConstants.{MOST_BLOCKS, INODES, SLOTS, ENTRIES}
use Rattle.crash_model.specs.Disk.{Disk, byte}
use Rattle.crash_model.specs.Layout.{kind_of, links_of, map_of, is_data, is_owned}
use Rattle.crash_model.specs.Lists.{when}
use Rattle.crash_model.specs.Faults.{is_dangling, is_twice, is_unwritten, has_low_links, is_marked_free, is_wild}
use Rattle.crash_model.specs.Faults.{is_right_mark, names_block, leads_to}
use Rattle.fs_check.specs.TableCounts.{IsTally}

-- no fault of a pointer holds
pub record HasCleanPointers (d : Disk) : Type 0 where
  pub no_twice : (block : ℕ) → block < d.blocks → is_twice d block ≡ false
  pub no_unwritten : (inode : ℕ) → inode < INODES → (slot : ℕ) → slot < SLOTS → is_unwritten d inode slot ≡ false
  pub no_marked_free : (inode : ℕ) → inode < INODES → (slot : ℕ) → slot < SLOTS → is_marked_free d inode slot ≡ false
  pub no_wild : (inode : ℕ) → inode < INODES → (slot : ℕ) → slot < SLOTS → is_wild d inode slot ≡ false

-- no fault of an entry holds
pub record HasCleanEntries (d : Disk) : Type 0 where
  pub no_dangling : (dir : ℕ) → dir < INODES → (k : ℕ) → k < ENTRIES → is_dangling d dir k ≡ false
  pub no_low_links : (inode : ℕ) → inode < INODES → has_low_links d inode ≡ false

-- a block is marked as an inode's
abbrev pub is_marked : Disk → ℕ → ℕ → Bool
is_marked d inode block = is_right_mark (kind_of d inode) (byte d block 0) && is_owned d block inode

-- a block of the data area, in use, that is marked as an inode's
abbrev pub is_right_block : Disk → ℕ → ℕ → Bool
is_right_block d inode block = is_data d block && not (map_of d block == 0) && is_marked d inode block

-- Places in rows of one width, the keys below a number, which key a place counts for, which places have a fault of
-- their own, and the most places that may count for a key.
pub record Table : Type 0 where
  pub width : ℕ
  pub keys : ℕ
  pub element : ℕ → ℕ → ℕ → Option (ℕ × ℕ)
  pub is_faulty : ℕ → ℕ → Bool
  pub most : ℕ → ℕ

-- the slots by inode, which count for the blocks that they name
abbrev pub slots_of : Disk → Table
slots_of d = record {
  width = SLOTS;
  keys = MOST_BLOCKS;
  element = λ block inode slot. when (names_block d inode slot block) (inode, slot);
  is_faulty = λ inode slot. is_unwritten d inode slot || is_marked_free d inode slot || is_wild d inode slot;
  most = λ block. 1;
}

-- the entries by directory, which count for the inodes that they lead to
abbrev pub entries_of : Disk → Table
entries_of d = record {
  width = ENTRIES;
  keys = INODES;
  element = λ inode dir k. when (leads_to d dir k inode) (dir, k);
  is_faulty = is_dangling d;
  most = links_of d;
}

-- The places before one have no fault of their own, the counts are those of the places among them that count for each
-- key, and none is too large.
pub record HavePassed (t : Table) (row column : ℕ) (counts : List ℕ) : Type 0 where
  pub rows_right : (r : ℕ) → r < row → (c : ℕ) → c < t.width → t.is_faulty r c ≡ false
  pub row_right : (c : ℕ) → c < column → t.is_faulty row c ≡ false
  pub size : length counts ≡ t.keys
  pub tally : IsTally t.width t.element row column counts
  pub few : (key : ℕ) → key < t.keys → slice_index counts key ≤ t.most key
