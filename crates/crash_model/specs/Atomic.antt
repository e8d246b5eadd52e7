-- What the checker of whole operations finds: that an image shows none of the disks that the operations leave.
use Rattle.std.specs.Prelude.{◌≡◌, ℕ, List, [], ◌∷◌, ◌++◌, Bool, false, ◌&&◌, ◌||◌, ◌==◌, not, nat_le, bytes_eq}
use Rattle.std.specs.Prelude.{if◌then◌else◌, Option, Some, None}
use Rattle.std.specs.List.{range_with_len, list_any, list_all}
use mathlib.Core.Bool.{beq}
use Rattle.crash_model.specs.declared.disk_bytes.TheConstants.{INODES, SLOTS}
use Rattle.crash_model.specs.Disk.{Disk, block_of}
use Rattle.crash_model.specs.Layout.{pointer_of, is_pointer}
use Rattle.crash_model.specs.StepDisks.{disk_after}
use Rattle.crash_model.specs.declared.fault.Fault.{Fault}
use Rattle.crash_model.specs.declared.fault.Fault.TheVariants.{HalfDone}
use Rattle.crash_model.specs.declared.steps.Step.{Step}

-- ---- the disks that a script passes through

abbrev pub is_same_disk : Disk → Disk → Bool
is_same_disk a b =
    a.blocks == b.blocks
    && (a.journal == b.journal && (beq a.generations b.generations && bytes_eq a.bytes b.bytes))

-- a disk after the others, if it is none of them
abbrev pub with_disk : List Disk → Disk → List Disk
with_disk disks d = if list_any (is_same_disk d) disks then disks else disks ++ d ∷ []

-- after some disks: the disk, and the disk after each of the steps
abbrev pub disks_from : List Disk → Disk → List Step → List Disk
disks_from disks d [] = with_disk disks d
disks_from disks d (x ∷ xs) = disks_from (with_disk disks d) (disk_after d x.act) xs

-- the base, and the disk after each of the steps, each once; the operations are applied as they are, with no journal
-- between
abbrev pub disks_of : Disk → List Step → List Disk
disks_of base steps = disks_from [] base steps

-- ---- what an image shows

-- a pointer of a live inode names the block
abbrev pub is_pointed_to : Disk → ℕ → Bool
is_pointed_to d block =
    list_any (λ inode. list_any (λ slot. is_pointer d inode slot && pointer_of d inode slot == block)
    (range_with_len 0 SLOTS)) (range_with_len 0 INODES)

-- a block that is compared: the map, the inodes, and what live inodes point to
abbrev pub is_compared : Disk → ℕ → Bool
is_compared d block = (nat_le 1 block && nat_le block 3) || is_pointed_to d block

-- an image has the bytes of the disk in each block that is compared
unfoldable pub shows : Disk → Disk → Bool
shows image d =
    list_all (λ block. not (is_compared d block) || bytes_eq (block_of image block) (block_of d block))
    (range_with_len 0 d.blocks)

-- ---- the fault

-- 9: the image shows none of the disks
abbrev pub is_half_done : List Disk → Disk → Bool
is_half_done disks image = not (list_any (shows image) disks)

-- the image shows one of the disks, if it must show any
abbrev pub ShowsSome : Option (List Disk) → Disk → Type 0
ShowsSome None image = Unit {0}
ShowsSome (Some disks) image = is_half_done disks image ≡ false

unfoldable pub atomic_faults : List Disk → Disk → List Fault
atomic_faults disks image = if is_half_done disks image then HalfDone ∷ [] else []
