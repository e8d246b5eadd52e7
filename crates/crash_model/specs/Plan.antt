-- What each operation changes, and when it is refused.
use Rattle.std.specs.Prelude.{ℕ, ◌+◌, ◌-◌, ◌*◌, ◌%◌, List, [], ◌∷◌, ◌++◌, length, replicate, Bool, ◌&&◌, ◌==◌, not}
use Rattle.std.specs.Prelude.{nat_le, nat_lt, if◌then◌else◌, Option, Some, None, is_some, option_to_list, Result, Ok}
use Rattle.std.specs.Prelude.{Err, bytes_eq, false, slice_index}
use Rattle.crash_model.specs.declared.disk_bytes.TheConstants.{INODES, INODE_SIZE, POINTERS_FROM, SLOTS, MOST_LINKS}
use Rattle.crash_model.specs.declared.disk_bytes.TheConstants.{ENTRIES, ENTRY_SIZE, LONGEST_NAME, FREE_KIND}
use Rattle.crash_model.specs.declared.disk_bytes.TheConstants.{FILE_KIND, DIRECTORY_KIND, FILE_MARK, DIRECTORY_MARK}
use Rattle.crash_model.specs.declared.disk_bytes.TheConstants.{KINDS_AT, TOUCHED_FROM, DATA_FROM}
use Rattle.crash_model.specs.Lists.{first_below, some_below, when}
use Rattle.crash_model.specs.Disk.{Disk, byte, with_bytes}
use Rattle.crash_model.specs.Layout.{kind_of, links_of, pointer_of, map_of, is_live, is_data, counts, entry_of}
use Rattle.crash_model.specs.Layout.{is_entry, target_of, spelling_of, inode_block, inode_offset, entry_offset}
use Rattle.crash_model.specs.Generations.{generation_of, next_generation}
use Rattle.crash_model.specs.Slots.{slot_number}
use Rattle.crash_model.specs.declared.operations.Op.{Op}
use Rattle.crash_model.specs.declared.names.Path.{Path}
use Rattle.crash_model.specs.declared.operations.Op.TheVariants.{Create, Write, Link, Unlink, Rename, Mkdir, Rmdir}
use Rattle.crash_model.specs.declared.operations.Op.TheVariants.{Overwrite, Truncate, Replace}
use Rattle.crash_model.specs.declared.operations.Slot.{Slot}
use Rattle.crash_model.specs.declared.refusals.FsFault.{FsFault}
use Rattle.crash_model.specs.declared.refusals.FsFault.TheVariants.{NotFound, NotADirectory, Exists, NotAFile, NotEmpty}
use Rattle.crash_model.specs.declared.refusals.FsFault.TheVariants.{NoInode, NoBlock, DirectoryFull, FileFull}
use Rattle.crash_model.specs.declared.refusals.FsFault.TheVariants.{LinksFull}
use Rattle.crash_model.specs.declared.plans.Change.{Change}
use Rattle.crash_model.specs.declared.plans.Role.{Role}
use Rattle.crash_model.specs.declared.plans.Role.TheVariants.{InodeInit, EntrySet, EntryClear, MapSet, MapClear}
use Rattle.crash_model.specs.declared.plans.Role.TheVariants.{InitFile, InitDir, Ptr, LinkUp, LinkDown, InodeFree}
use Rattle.crash_model.specs.declared.plans.Role.TheVariants.{PtrClear, NewData, Touch}

-- ---- answers, which may be refusals

-- the second answer, made from the first if that is Ok
abbrev pub then_ok : {A B E : Type 0} → Result A E → (A → Result B E) → Result B E
then_ok (Err e) next = Err e
then_ok (Ok x) next = next x

-- the answer, unless the test holds: then it is refused
abbrev pub unless : {A E : Type 0} → Bool → E → Result A E → Result A E
unless test fault answer = if test then Err fault else answer

-- the answer made from what is found; if nothing is, it is refused
abbrev pub with_found : {A B E : Type 0} → Option A → E → (A → Result B E) → Result B E
with_found None fault answer = Err fault
with_found (Some x) fault answer = answer x

-- ---- names

-- an entry's bytes 1 to 11 for a name
abbrev pub name_spelling : List ℕ → List ℕ
name_spelling name = length name ∷ name ++ replicate (LONGEST_NAME - length name) 0

-- entry k has the name, and its target is live
abbrev pub is_named : Disk → ℕ → List ℕ → ℕ → Bool
is_named d dir name k =
    is_entry d dir k && is_live d (target_of d dir k) && bytes_eq (spelling_of d dir k) (name_spelling name)

-- the lowest entry of this name, in a directory that counts, whose target is live
abbrev pub entry_named : Disk → ℕ → List ℕ → Option ℕ
entry_named d dir name = first_below ENTRIES (is_named d dir name)

-- the directory that a name leads to
abbrev pub directory_named : Disk → ℕ → List ℕ → Result ℕ FsFault
directory_named d dir name =
    with_found (entry_named d dir name) NotFound (λ k.
    unless (not (kind_of d (target_of d dir k) == DIRECTORY_KIND)) NotADirectory (Ok (target_of d dir k)))

-- the directory that these names lead to
abbrev pub walk_end : Disk → ℕ → List (List ℕ) → Result ℕ FsFault
walk_end d dir [] = Ok dir
walk_end d dir (name ∷ names) = then_ok (directory_named d dir name) (λ child. walk_end d child names)

-- what is planned in the directory and with the name that a path leads to
abbrev pub at_path : {B : Type 0} → Disk → Path → (ℕ → List ℕ → Result B FsFault) → Result B FsFault
at_path d path plan = then_ok (walk_end d 0 path.through.items) (λ dir. plan dir path.last)

-- what is planned with the directory and the entry that a path leads to, and with the entry's target
abbrev pub at_entry : {B : Type 0} → Disk → Path → (ℕ → ℕ → ℕ → Result B FsFault) → Result B FsFault
at_entry d path plan =
    at_path d path (λ dir name. with_found (entry_named d dir name) NotFound (λ k. plan dir k (target_of d dir k)))

-- ---- what is free

-- an inode, a block, an entry and a slot that are free, and the lowest of each
abbrev pub is_free_inode : Disk → ℕ → Bool
is_free_inode d i = kind_of d i == FREE_KIND

abbrev pub free_inode : Disk → Option ℕ
free_inode d = first_below INODES (is_free_inode d)

abbrev pub is_free_block : Disk → ℕ → Bool
is_free_block d b = is_data d b && map_of d b == 0

abbrev pub free_block : Disk → Option ℕ
free_block d = first_below d.blocks (is_free_block d)

abbrev pub is_free_entry : Disk → ℕ → ℕ → Bool
is_free_entry d dir k = counts d dir && entry_of d dir k == 0

abbrev pub free_entry : Disk → ℕ → Option ℕ
free_entry d dir = first_below ENTRIES (is_free_entry d dir)

abbrev pub is_free_slot : Disk → ℕ → ℕ → Bool
is_free_slot d inode s = pointer_of d inode s == 0

abbrev pub free_slot : Disk → ℕ → Option ℕ
free_slot d inode = first_below SLOTS (is_free_slot d inode)

-- ---- the changes

abbrev pub change : Role → ℕ → ℕ → List ℕ → Change
change role block offset new = record { block = block; offset = offset; new = record { items = new }; role = role }

-- from a byte of an inode on
abbrev pub at_inode : Role → ℕ → ℕ → List ℕ → Change
at_inode role inode from new = change role (inode_block inode) (inode_offset inode + from) new

-- it keeps its generation
abbrev pub inode_init : Disk → ℕ → ℕ → Change
inode_init d inode kind = at_inode InodeInit inode 0 (kind ∷ 1 ∷ generation_of d inode ∷ replicate 13 0)

abbrev pub inode_free : Disk → ℕ → Change
inode_free d inode = at_inode InodeFree inode 0 (0 ∷ 0 ∷ next_generation d inode ∷ replicate 13 0)

abbrev pub link_count : Role → ℕ → ℕ → Change
link_count role inode links = at_inode role inode 1 (links ∷ [])

abbrev pub pointer_set : ℕ → ℕ → ℕ → Change
pointer_set inode slot block = at_inode Ptr inode (POINTERS_FROM + slot) (block ∷ [])

abbrev pub entry_set : Disk → ℕ → ℕ → ℕ → List ℕ → Change
entry_set d dir k inode name = change EntrySet (pointer_of d dir 0) (entry_offset k) ((inode + 1) ∷ name_spelling name)

abbrev pub entry_clear : Disk → ℕ → ℕ → Change
entry_clear d dir k = change EntryClear (pointer_of d dir 0) (entry_offset k) (replicate ENTRY_SIZE 0)

abbrev pub map_set : ℕ → Change
map_set block = change MapSet 1 block (1 ∷ [])

abbrev pub map_clear : ℕ → Change
map_clear block = change MapClear 1 block (0 ∷ [])

abbrev pub init_block : Disk → Role → ℕ → ℕ → ℕ → Change
init_block d role block mark inode = change role block 0 (mark ∷ inode ∷ generation_of d inode ∷ replicate 125 0)

-- the byte of a block that stands for its data, and one of an inode, each one more
abbrev pub new_data : Disk → ℕ → Change
new_data d block = change NewData block DATA_FROM ((byte d block DATA_FROM + 1) % 256 ∷ [])

abbrev pub touched_of : Disk → ℕ → ℕ
touched_of d inode = slice_index d.bytes (KINDS_AT + INODE_SIZE * inode + TOUCHED_FROM)

abbrev pub touch : Disk → ℕ → Change
touch d inode = at_inode Touch inode TOUCHED_FROM ((touched_of d inode + 1) % 256 ∷ [])

abbrev pub pointers_clear : ℕ → Change
pointers_clear inode = at_inode PtrClear inode POINTERS_FROM (replicate SLOTS 0)

-- of an inode's pointers into the data area, by ascending slot
abbrev pub map_clear_at : Disk → ℕ → ℕ → Option Change
map_clear_at d inode slot = let block = pointer_of d inode slot in when (is_data d block) (map_clear block)

abbrev pub map_clears : Disk → ℕ → List Change
map_clears d inode = some_below SLOTS (map_clear_at d inode)

-- of the block in a slot, if that is one of the data area
abbrev pub new_data_at : Disk → ℕ → ℕ → Option Change
new_data_at d inode slot = let block = pointer_of d inode slot in when (is_data d block) (new_data d block)

-- of the block in one slot, or of the blocks in all slots
abbrev pub new_data_in : Disk → ℕ → Option Slot → List Change
new_data_in d inode None = some_below SLOTS (new_data_at d inode)
new_data_in d inode (Some slot) = option_to_list (new_data_at d inode (slot_number slot))

-- a file's inode has a name less, and after the last one the inode and its blocks are free
abbrev pub name_dropped : Disk → ℕ → List Change
name_dropped d inode =
    if nat_lt 1 (links_of d inode)
    then link_count LinkDown inode (links_of d inode - 1) ∷ []
    else (inode_free d inode ∷ map_clears d inode)

-- ---- the operations

abbrev pub has_entries : Disk → ℕ → Bool
has_entries d dir = is_some (first_below ENTRIES (is_entry d dir))

-- a slot that is asked for names no block
abbrev pub lacks_block_in : Disk → ℕ → Option Slot → Bool
lacks_block_in d inode None = false
lacks_block_in d inode (Some slot) = pointer_of d inode (slot_number slot) == 0

-- one more name for a file, and then more changes, made of the old directory and entry and of the file
abbrev pub relink_plan : Disk → Path → Path → (ℕ → ℕ → ℕ → List Change) → Result (List Change) FsFault
relink_plan d old new more =
    at_entry d old (λ old_dir old_k target. at_path d new (λ dir name.
    unless (is_some (entry_named d dir name)) Exists
    (unless (not (kind_of d target == FILE_KIND)) NotAFile
    (with_found (free_entry d dir) DirectoryFull (λ k.
    unless (nat_le MOST_LINKS (links_of d target)) LinksFull
    (Ok (link_count LinkUp target (links_of d target + 1) ∷ entry_set d dir k target name
    ∷ more old_dir old_k target)))))))

-- the changes of an operation, in the order in which they are emitted, or its first refusal
unfoldable pub plan_of : Disk → Op → Result (List Change) FsFault
plan_of d (Create path) =
    at_path d path (λ dir name.
    unless (is_some (entry_named d dir name)) Exists
    (with_found (free_inode d) NoInode (λ inode.
    with_found (free_entry d dir) DirectoryFull (λ k.
    Ok (inode_init d inode FILE_KIND ∷ entry_set d dir k inode name ∷ [])))))
plan_of d (Write path) =
    at_entry d path (λ dir k target.
    unless (not (kind_of d target == FILE_KIND)) NotAFile
    (with_found (free_block d) NoBlock (λ block.
    with_found (free_slot d target) FileFull (λ slot.
    Ok (map_set block ∷ init_block d InitFile block FILE_MARK target ∷ pointer_set target slot block ∷ [])))))
plan_of d (Link old new) = relink_plan d old new (λ dir k target. [])
plan_of d (Unlink path) =
    at_entry d path (λ dir k target.
    unless (not (kind_of d target == FILE_KIND)) NotAFile
    (Ok (entry_clear d dir k ∷ name_dropped d target)))
plan_of d (Rename old new) =
    relink_plan d old new (λ dir k target. entry_clear d dir k ∷ link_count LinkDown target (links_of d target) ∷ [])
plan_of d (Mkdir path) =
    at_path d path (λ dir name.
    unless (is_some (entry_named d dir name)) Exists
    (with_found (free_inode d) NoInode (λ inode.
    with_found (free_block d) NoBlock (λ block.
    with_found (free_entry d dir) DirectoryFull (λ k.
    Ok (inode_init d inode DIRECTORY_KIND ∷ map_set block ∷ init_block d InitDir block DIRECTORY_MARK inode
    ∷ pointer_set inode 0 block ∷ entry_set d dir k inode name ∷ []))))))
plan_of d (Rmdir path) =
    at_entry d path (λ dir k target.
    unless (not (kind_of d target == DIRECTORY_KIND)) NotADirectory
    (unless (has_entries d target) NotEmpty
    (Ok (entry_clear d dir k ∷ inode_free d target ∷ option_to_list (map_clear_at d target 0)))))
plan_of d (Overwrite path slot) =
    at_entry d path (λ dir k target.
    unless (not (kind_of d target == FILE_KIND)) NotAFile
    (unless (lacks_block_in d target slot) NotFound
    (Ok (new_data_in d target slot ++ touch d target ∷ []))))
plan_of d (Truncate path) =
    at_entry d path (λ dir k target.
    unless (not (kind_of d target == FILE_KIND)) NotAFile
    (Ok (pointers_clear target ∷ map_clears d target)))
plan_of d (Replace old new) =
    at_entry d old (λ old_dir old_k target. at_entry d new (λ dir k other.
    unless (not (kind_of d target == FILE_KIND)) NotAFile
    (unless (not (kind_of d other == FILE_KIND)) NotAFile
    (unless (target == other) Exists
    (unless (nat_le MOST_LINKS (links_of d target)) LinksFull
    (Ok (link_count LinkUp target (links_of d target + 1) ∷ entry_set d dir k target new.last
    ∷ entry_clear d old_dir old_k ∷ link_count LinkDown target (links_of d target)
    ∷ name_dropped d other)))))))

-- the disk with a list of changes made, the first first
abbrev pub with_changes : Disk → List Change → Disk
with_changes d [] = d
with_changes d (c ∷ cs) = with_changes (with_bytes d c.block c.offset c.new.items) cs
