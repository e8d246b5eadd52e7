-- A disk has a fault of a text. Faults are those of Faults, of Strict and of Atomic.
use Rattle.std.specs.Prelude.{ℕ, ◌<◌, List, slice_index, length, Bool, false, ◌&&◌, ◌==◌, nat_lt, Option, Some, None}
use Rattle.crash_model.specs.declared.disk_bytes.TheConstants.{INODES, SLOTS, ENTRIES}
use Rattle.crash_model.specs.Disk.{Disk}
use Rattle.crash_model.specs.Layout.{target_of, links_of, pointer_of}
use Rattle.crash_model.specs.Faults.{is_dangling, is_twice, is_unwritten, has_low_links, entries_to, is_marked_free}
use Rattle.crash_model.specs.Faults.{is_wild}
use Rattle.crash_model.specs.Strict.{is_lost, lacks_block}
use Rattle.crash_model.specs.Atomic.{is_half_done}
use Rattle.crash_model.specs.Checker.{Demands}
use Rattle.crash_model.specs.declared.fault.Fault.{Fault}
use Rattle.crash_model.specs.declared.fault.Fault.TheVariants.{Dangling, Twice, Unwritten, LowLinks, MarkedFree, Wild}
use Rattle.crash_model.specs.declared.fault.Fault.TheVariants.{Lost, NoBlock, HalfDone, BrokenPromise}

-- each by its numbers, which are those of an entry, a slot or an inode
abbrev pub dangling_there : Disk → ℕ → ℕ → ℕ → Bool
dangling_there d dir k inode =
    (nat_lt dir INODES && nat_lt k ENTRIES && nat_lt inode 255) && (is_dangling d dir k && target_of d dir k == inode)

abbrev pub twice_there : Disk → ℕ → Bool
twice_there d block = is_twice d block

abbrev pub unwritten_there : Disk → ℕ → ℕ → ℕ → Bool
unwritten_there d inode slot block =
    (nat_lt inode INODES && nat_lt slot SLOTS) && (is_unwritten d inode slot && pointer_of d inode slot == block)

abbrev pub low_there : Disk → ℕ → ℕ → ℕ → Bool
low_there d inode entries links =
    nat_lt inode INODES
    && (has_low_links d inode && (length (entries_to d inode) == entries && links_of d inode == links))

abbrev pub marked_free_there : Disk → ℕ → ℕ → ℕ → Bool
marked_free_there d inode slot block =
    (nat_lt inode INODES && nat_lt slot SLOTS) && (is_marked_free d inode slot && pointer_of d inode slot == block)

abbrev pub wild_there : Disk → ℕ → ℕ → ℕ → Bool
wild_there d inode slot block =
    (nat_lt inode INODES && nat_lt slot SLOTS) && (is_wild d inode slot && pointer_of d inode slot == block)

abbrev pub lost_there : Option ℕ → Disk → ℕ → Bool
lost_there None d inode = false
lost_there (Some kept) d inode = nat_lt inode INODES && is_lost d kept inode

abbrev pub bare_there : Option ℕ → Disk → ℕ → Bool
bare_there None d inode = false
bare_there (Some kept) d inode = nat_lt inode INODES && lacks_block d inode

abbrev pub half_done_there : Option (List Disk) → Disk → Bool
half_done_there None d = false
half_done_there (Some disks) d = is_half_done disks d

-- The disk has the fault, with what is demanded of it. A broken promise is a fault of a set, and not of a disk.
abbrev pub has_fault : Demands → Disk → Fault → Bool
has_fault demands d (Dangling dir k inode) = dangling_there d dir k inode
has_fault demands d (Twice block) = twice_there d block
has_fault demands d (Unwritten inode slot block) = unwritten_there d inode slot block
has_fault demands d (LowLinks inode entries links) = low_there d inode entries links
has_fault demands d (MarkedFree inode slot block) = marked_free_there d inode slot block
has_fault demands d (Wild inode slot block) = wild_there d inode slot block
has_fault demands d (Lost inode) = lost_there demands.kept d inode
has_fault demands d (NoBlock inode) = bare_there demands.kept d inode
has_fault demands d HalfDone = half_done_there demands.disks d
has_fault demands d (BrokenPromise line) = false

-- all bytes are below 256
pub record HasBytes (d : Disk) : Type 0 where
  pub small : (k : ℕ) → slice_index d.bytes k < 256
