-- What a path shows on a disk.
use Rattle.std.specs.Prelude.{ℕ, ◌+◌, ◌*◌, List, [], ◌∷◌, ◌++◌, map, slice_range, Bool, true, false, ◌&&◌, ◌==◌}
use Rattle.std.specs.Prelude.{if◌then◌else◌, bytes_eq, Option, Some, None, option_map}
use Rattle.std.specs.List.{range_with_len}
use Rattle.crash_model.specs.declared.disk_bytes.TheConstants.{BLOCK_SIZE, SLOTS, SHOWN_BYTES, DIRECTORY_KIND}
use Rattle.crash_model.specs.Disk.{Disk}
use Rattle.crash_model.specs.Layout.{kind_of, pointer_of, is_data, counts, target_of}
use Rattle.crash_model.specs.Plan.{entry_named}
use Rattle.crash_model.specs.declared.names.Path.{Path}
use Rattle.crash_model.specs.declared.showing.ShownSlot.{ShownSlot}
use Rattle.crash_model.specs.declared.showing.ShownSlot.TheVariants.{Hole, Wild, Begins}
use Rattle.crash_model.specs.declared.showing.Shown.{Shown}
use Rattle.crash_model.specs.declared.showing.Shown.TheVariants.{Nothing, Directory, File}

-- ---- where a path leads

abbrev pub names_of : Path → List (List ℕ)
names_of path = path.through.items ++ path.last ∷ []

-- the inode that a name of a directory leads to: by the lowest entry of the name, in a directory that counts, whose
-- inode is live
abbrev pub child_of : Disk → ℕ → List ℕ → Option ℕ
child_of d dir name = option_map (target_of d dir) (entry_named d dir name)

-- the inode that names lead to from an inode
abbrev pub end_of : Disk → Option ℕ → List (List ℕ) → Option ℕ
end_of d inode [] = inode
end_of d None (name ∷ names) = None
end_of d (Some dir) (name ∷ names) = end_of d (child_of d dir name) names

-- two paths have the same names
abbrev pub are_same_names : List (List ℕ) → List (List ℕ) → Bool
are_same_names [] [] = true
are_same_names (x ∷ xs) (y ∷ ys) = bytes_eq x y && are_same_names xs ys
are_same_names _ _ = false

abbrev pub is_same_path : Path → Path → Bool
is_same_path p q = are_same_names (names_of p) (names_of q)

-- ---- what is shown there

abbrev pub slot_shown : Disk → ℕ → ℕ → ShownSlot
slot_shown d inode slot =
    let block = pointer_of d inode slot in
    if block == 0 then Hole
    else if is_data d block then Begins (slice_range d.bytes (BLOCK_SIZE * block) (BLOCK_SIZE * block + SHOWN_BYTES))
    else Wild

abbrev pub file_shown : Disk → ℕ → Shown
file_shown d inode = File (map (slot_shown d inode) (range_with_len 0 SLOTS))

-- a directory is shown where it counts
abbrev pub inode_shown : Disk → Option ℕ → Shown
inode_shown d None = Nothing
inode_shown d (Some inode) =
    if kind_of d inode == DIRECTORY_KIND then (if counts d inode then Directory else Nothing) else file_shown d inode

unfoldable pub names_show : Disk → List (List ℕ) → Shown
names_show d names = inode_shown d (end_of d (Some 0) names)

unfoldable pub path_shows : Disk → Path → Shown
path_shows d path = names_show d (names_of path)

-- ---- the same is shown

abbrev pub is_same_slot : ShownSlot → ShownSlot → Bool
is_same_slot Hole Hole = true
is_same_slot Wild Wild = true
is_same_slot (Begins a) (Begins b) = bytes_eq a b
is_same_slot _ _ = false

abbrev pub are_same_slots : List ShownSlot → List ShownSlot → Bool
are_same_slots [] [] = true
are_same_slots (x ∷ xs) (y ∷ ys) = is_same_slot x y && are_same_slots xs ys
are_same_slots _ _ = false

abbrev pub is_same_shown : Shown → Shown → Bool
is_same_shown Nothing Nothing = true
is_same_shown Directory Directory = true
is_same_shown (File a) (File b) = are_same_slots a b
is_same_shown _ _ = false

-- of several paths
abbrev pub are_same_shown : List Shown → List Shown → Bool
are_same_shown [] [] = true
are_same_shown (x ∷ xs) (y ∷ ys) = is_same_shown x y && are_same_shown xs ys
are_same_shown _ _ = false
