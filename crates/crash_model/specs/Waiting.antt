-- What the lines `sync` and `fsync` wait for.
use Rattle.std.specs.Prelude.{ℕ, ◌+◌, List, [], ◌∷◌, ◌++◌, length, Bool, true, false, ◌&&◌, ◌||◌, ◌==◌}
use Rattle.std.specs.Prelude.{nat_lt, max, if◌then◌else◌, Option, Some, None, flat_map}
use Rattle.std.specs.List.{range_with_len, list_any}
use Rattle.crash_model.specs.declared.disk_bytes.TheConstants.{BLOCK_SIZE, MAP_BLOCK, INODE_SIZE, SLOTS}
use Rattle.patch_sets.specs.Sets.{with_id}
use Rattle.crash_model.specs.Disk.{Disk}
use Rattle.crash_model.specs.Layout.{pointer_of, inode_block, inode_offset}
use Rattle.crash_model.specs.Patches.{Place}
use Rattle.crash_model.specs.Emitted.{Emitted}
use Rattle.crash_model.specs.Paths.{child_of, names_of}
use Rattle.crash_model.specs.declared.ranges.Range.{Range}
use Rattle.crash_model.specs.declared.modules.Module.{Module}
use Rattle.crash_model.specs.declared.modules.Module.TheVariants.{Async, Soft}
use Rattle.crash_model.specs.declared.rules.Part.TheVariants.{InPlace, FileData, NewData, Commit}
use Rattle.crash_model.specs.declared.steps.Act.{Act}
use Rattle.crash_model.specs.declared.steps.Target.{Target}
use Rattle.crash_model.specs.declared.steps.Target.TheVariants.{Root, At}

-- ---- the ranges of a path

abbrev pub range : ℕ → ℕ → ℕ → Range
range block offset size = record { block = block; offset = offset; size = size }

-- some bytes of an inode, from one of them on
abbrev pub inode_range : ℕ → ℕ → ℕ → Range
inode_range inode from size = range (inode_block inode) (inode_offset inode + from) size

-- a whole block, and its byte of the map
abbrev pub block_ranges : ℕ → List Range
block_ranges block = range block 0 BLOCK_SIZE ∷ range MAP_BLOCK block 1 ∷ []

-- of the blocks that an inode's pointers name
abbrev pub pointed_ranges : Disk → ℕ → (ℕ → List Range) → List Range
pointed_ranges d inode ranges =
    flat_map (λ slot. if pointer_of d inode slot == 0 then [] else ranges (pointer_of d inode slot))
    (range_with_len 0 SLOTS)

-- From an inode through names: the inodes on the way with that at the end; the directories' blocks; and the blocks that
-- the inode at the end points to. Each block comes with its byte of the map.
abbrev pub ranges_from : Disk → Option ℕ → List (List ℕ) → List Range
ranges_from d None names = []
ranges_from d (Some inode) [] = inode_range inode 0 INODE_SIZE ∷ pointed_ranges d inode block_ranges
ranges_from d (Some dir) (name ∷ names) =
    inode_range dir 0 INODE_SIZE ∷ block_ranges (pointer_of d dir 0) ++ ranges_from d (child_of d dir name) names

abbrev pub target_names : Target → List (List ℕ)
target_names Root = []
target_names (At path) = names_of path

unfoldable pub ranges_of : Disk → Target → List Range
ranges_of d target = ranges_from d (Some 0) (target_names target)

-- new bytes share a byte with a range
abbrev pub meets_range : Place → Range → Bool
meets_range p r = p.block == r.block && nat_lt p.offset (r.offset + r.size) && nat_lt r.offset (p.offset + length p.new)

abbrev pub meets : List Range → Emitted → Bool
meets ranges p = list_any (meets_range p.place) ranges

-- ---- what is forced

-- file data that stay out of the journal
abbrev pub is_file_data_patch : Emitted → Bool
is_file_data_patch p = elim p.part [ FileData ↦ true | NewData ↦ true | _ ↦ false ]

abbrev pub is_commit : Emitted → Bool
is_commit p = elim p.part [ Commit ↦ true | _ ↦ false ]

-- file data, or a change in place
abbrev pub is_of_contents : Emitted → Bool
is_of_contents p = elim p.part [ InPlace _ ↦ true | FileData ↦ true | NewData ↦ true | _ ↦ false ]

-- the last operation of which one of the patches has a property, or 0
abbrev pub last_op_number : (Emitted → Bool) → List Emitted → ℕ
last_op_number test [] = 0
last_op_number test (p ∷ ps) = if test p then max p.op_number (last_op_number test ps) else last_op_number test ps

-- `sync` forces each patch; under a journal the file data and the commits
abbrev pub sync_forces : Module → Emitted → Bool
sync_forces Async p = true
sync_forces Soft p = true
sync_forces _ p = is_file_data_patch p || is_commit p

-- `fsync` forces each patch that meets the ranges of its path; under a journal the file data among them, and the commit
-- of the last operation that has file data or a change in place among them
abbrev pub fsync_forces : Module → List Range → List Emitted → Emitted → Bool
fsync_forces Async ranges all p = meets ranges p
fsync_forces Soft ranges all p = meets ranges p
fsync_forces _ ranges all p =
    (is_file_data_patch p && meets ranges p)
    || (is_commit p && p.op_number == last_op_number (λ q. is_of_contents q && meets ranges q) all)

-- the set of the ids, from `id` on, of the patches that have a property
abbrev pub ids_from : ℕ → (Emitted → Bool) → List Emitted → ℕ
ids_from id test [] = 0
ids_from id test (p ∷ ps) = if test p then with_id (ids_from (id + 1) test ps) id else ids_from (id + 1) test ps

-- a line that waits, and what it forces, as a set
pub record Wait : Type 0 where
  pub line : ℕ
  pub act : Act
  pub ids : ℕ

unfoldable pub forced_by_sync : Module → List Emitted → ℕ
forced_by_sync kind emitted = ids_from 0 (sync_forces kind) emitted

unfoldable pub forced_by_fsync : Module → Disk → Target → List Emitted → ℕ
forced_by_fsync kind d target emitted = ids_from 0 (fsync_forces kind (ranges_of d target) emitted) emitted
