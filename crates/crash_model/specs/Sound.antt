-- Sound images: those that complete operations leave.
use Rattle.std.specs.Prelude.{◌≡◌, ◌≢◌, ℕ, zero, suc, ◌+◌, ◌<◌, ◌≤◌, ◌⊎◌, ◌↔◌, List, length, IsTrue}
use Rattle.crash_model.specs.declared.disk_bytes.TheConstants.{BLOCK_SIZE, JOURNAL_AT, INODES, SLOTS, MOST_LINKS}
use Rattle.crash_model.specs.declared.disk_bytes.TheConstants.{ENTRIES, FILE_KIND, DIRECTORY_KIND}
use Rattle.crash_model.specs.Disk.{Disk, byte}
use Rattle.crash_model.specs.Names.{IsName}
use Rattle.crash_model.specs.Layout.{kind_of, links_of, pointer_of, map_of, is_live, counts, is_entry, target_of}
use Rattle.crash_model.specs.Layout.{spelling_of}
use Rattle.crash_model.specs.Faults.{IsClean, entries_to}
use Rattle.crash_model.specs.Plan.{name_spelling}
use Rattle.crash_model.specs.View.{HasName, HasInode, HasPointer}

-- entries lead from inode 0 to an inode in n steps
abbrev pub ReachedIn : Disk → ℕ → ℕ → Type 0
ReachedIn d zero inode = inode ≡ 0
ReachedIn d (suc n) inode = (dir : ℕ) × (name : List ℕ) × HasName d dir name inode × ReachedIn d n dir

pub record IsSound (d : Disk) : Type 0 where
  pub clean : IsClean d
  -- inode 0 is a directory with one link and the root's block, and no entry leads to it
  pub root : HasInode d 0 DIRECTORY_KIND 1 × HasPointer d 0 0 (JOURNAL_AT + d.journal)
  pub no_way_up : (dir : ℕ) → dir < INODES → (k : ℕ) → k < ENTRIES → IsTrue (is_entry d dir k) → target_of d dir k ≢ 0
  -- a live inode is a file or a directory
  pub kinds : (i : ℕ) → IsTrue (is_live d i) → (kind_of d i ≡ FILE_KIND) ⊎ (kind_of d i ≡ DIRECTORY_KIND)
  -- a directory has one block, marked as its own; a file's pointers fill the slots from 0 on
  pub directories : (i : ℕ) → i < INODES → kind_of d i ≡ DIRECTORY_KIND → IsTrue (counts d i)
      × ((s : ℕ) → 0 < s → s < SLOTS → pointer_of d i s ≡ 0)
  pub packed : (i : ℕ) → i < INODES → kind_of d i ≡ FILE_KIND → (s : ℕ) → s + 1 < SLOTS → pointer_of d i s ≡ 0
      → pointer_of d i (s + 1) ≡ 0
  -- entries have names, those of one directory different ones
  pub named : (dir : ℕ) → dir < INODES → (k : ℕ) → k < ENTRIES → IsTrue (is_entry d dir k)
      → (name : List ℕ) × IsName name × (spelling_of d dir k ≡ name_spelling name)
  pub distinct : (dir : ℕ) → dir < INODES → (j k : ℕ) → j < k → k < ENTRIES → IsTrue (is_entry d dir j)
      → IsTrue (is_entry d dir k) → spelling_of d dir j ≢ spelling_of d dir k
  -- link counts are the numbers of entries: one for a directory, one to eight for a file
  pub counted : (i : ℕ) → 0 < i → IsTrue (is_live d i) → length (entries_to d i) ≡ links_of d i
  pub one_name : (i : ℕ) → 0 < i → i < INODES → kind_of d i ≡ DIRECTORY_KIND → links_of d i ≡ 1
  pub few_names : (i : ℕ) → i < INODES → kind_of d i ≡ FILE_KIND → (1 ≤ links_of d i) × (links_of d i ≤ MOST_LINKS)
  -- every live inode is reached from inode 0
  pub reached : (i : ℕ) → IsTrue (is_live d i) → (n : ℕ) × ReachedIn d n i
  -- in use are the blocks below the data area and those that live inodes name
  pub map : (b : ℕ) → b < d.blocks
      → ((map_of d b ≢ 0) ↔ ((b < JOURNAL_AT + d.journal) ⊎ ((i : ℕ) × (s : ℕ) × HasPointer d i s b)))

-- no journal block has a byte that is not 0
abbrev pub HasZeroJournal : Disk → Type 0
HasZeroJournal d =
    (block : ℕ) → JOURNAL_AT ≤ block → block < JOURNAL_AT + d.journal → (offset : ℕ) → offset < BLOCK_SIZE
    → byte d block offset ≡ 0
