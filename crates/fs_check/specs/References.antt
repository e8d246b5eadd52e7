-- What the pointers and the entries of a disk name, and which of them are faults.
use Rattle.std.specs.Prelude.{ℕ, List, length, not, ◌&&◌, ◌==◌, Option}
use Rattle.crash_model.specs.Disk.{Disk}
use Rattle.crash_model.specs.Layout.{links_of, map_of, pointer_of, is_live, is_data, is_pointer, target_of}
use Rattle.crash_model.specs.Lists.{when}
use Rattle.crash_model.specs.Faults.{each_slot, each_entry, is_dangling, is_twice, has_low_links, names_block, leads_to}
use Rattle.crash_model.specs.Faults.{entries_to}
use Rattle.crash_model.specs.declared.fault.Fault.{Fault}
use Rattle.crash_model.specs.declared.fault.Fault.TheVariants.{Dangling, Twice, Unwritten, LowLinks, MarkedFree, Wild}
use Rattle.fs_check.specs.Passed.{is_marked, is_right_block}
use Rattle.fs_check.specs.declared.references.Pointer.{Pointer}
use Rattle.fs_check.specs.declared.list.Test.{Test}
use Rattle.fs_check.specs.declared.list.Test.TheVariants.{IsUnwritten, IsMarkedFree, IsWild}

abbrev pub pointer : ℕ → ℕ → ℕ → Pointer
pointer inode slot block = record { inode = inode; slot = slot; block = block }

-- a pointer that has a fault of its own
abbrev pub wrong_at : Disk → ℕ → ℕ → Option Pointer
wrong_at d inode slot =
    let block = pointer_of d inode slot in
    when (is_pointer d inode slot && not (is_right_block d inode block)) (pointer inode slot block)

abbrev pub wrong_pointers : Disk → List Pointer
wrong_pointers d = each_slot (wrong_at d)

-- a slot that names a block
abbrev pub named_at : Disk → ℕ → ℕ → ℕ → Option (ℕ × ℕ)
named_at d block inode slot = when (names_block d inode slot block) (inode, slot)

-- an entry that leads to a live inode
abbrev pub led_at : Disk → ℕ → ℕ → ℕ → Option (ℕ × ℕ)
led_at d inode dir k = when (is_live d inode && leads_to d dir k inode) (dir, k)

-- an entry as a fault
abbrev pub dangling_at : Disk → ℕ → ℕ → Option Fault
dangling_at d dir k = when (is_dangling d dir k) (Dangling dir k (target_of d dir k))

abbrev pub dangling_entries : Disk → List Fault
dangling_entries d = each_entry (dangling_at d)

-- the fault that a test finds of a pointer
abbrev pub fault_of : Disk → Test → Pointer → Option Fault
fault_of d IsUnwritten p =
    when (is_data d p.block && not (is_marked d p.inode p.block)) (Unwritten p.inode p.slot p.block)
fault_of d IsMarkedFree p = when (is_data d p.block && map_of d p.block == 0) (MarkedFree p.inode p.slot p.block)
fault_of d IsWild p = when (not (is_data d p.block)) (Wild p.inode p.slot p.block)

-- a block, and an inode, as a fault
abbrev pub twice_at : Disk → ℕ → Option Fault
twice_at d block = when (is_twice d block) (Twice block)

abbrev pub low_links_at : Disk → ℕ → Option Fault
low_links_at d inode = when (has_low_links d inode) (LowLinks inode (length (entries_to d inode)) (links_of d inode))
