-- Patches, and the disk that a set of them leaves.
use Rattle.std.specs.Prelude.{◌≡◌, ℕ, ◌+◌, ◌*◌, List, [], ◌∷◌, length, map, slice_range, Bool, ◌&&◌, ◌==◌, nat_lt}
use Rattle.std.specs.Prelude.{if◌then◌else◌}
use Rattle.crash_model.specs.declared.disk_bytes.TheConstants.{BLOCK_SIZE}
use Rattle.state_space.specs.Counts.{HoldsOf, Outnumbers}
use Rattle.patch_sets.specs.Sets.{has}
use Rattle.patch_sets.specs.Closed.{IsClosed}
use Rattle.crash_model.specs.Disk.{Disk, with_bytes}
use Rattle.crash_model.specs.declared.patches.Patch.{Patch}

-- for each id the set of the ids that its patch depends on, and its block
abbrev pub deps_of : List Patch → List ℕ
deps_of patches = map (λ p. p.deps) patches

abbrev pub homes_of : List Patch → List ℕ
homes_of patches = map (λ p. p.block) patches

-- there are `total` closed sets
abbrev pub CountsClosed : List Patch → ℕ → Type 0
CountsClosed patches total = HoldsOf (IsClosed (deps_of patches)) total

-- there are more closed sets than the limit
abbrev pub ExceedsLimit : List Patch → ℕ → Type 0
ExceedsLimit patches limit = Outnumbers (IsClosed (deps_of patches)) limit

-- new bytes for a range of one block
pub record Place : Type 0 where
  pub block : ℕ
  pub offset : ℕ
  pub new : List ℕ

abbrev pub place : ℕ → ℕ → List ℕ → Place
place block offset new = record { block = block; offset = offset; new = new }

abbrev pub places_of : List Patch → List Place
places_of patches = map (λ p. place p.block p.offset p.new.items) patches

-- two ranges of one block share a byte
abbrev pub overlap : Place → Place → Bool
overlap q p =
    q.block == p.block && nat_lt q.offset (p.offset + length p.new) && nat_lt p.offset (q.offset + length q.new)

-- the disk with the places of a set put in ascending order of their ids, of which the first is `id`
abbrev pub image_from : ℕ → Disk → List Place → ℕ → Disk
image_from id d [] set = d
image_from id d (p ∷ ps) set =
    image_from (id + 1) (if has set id then with_bytes d p.block p.offset p.new else d) ps set

-- the base with the patches of a set put in ascending order of their ids
abbrev pub image_of : Disk → List Patch → ℕ → Disk
image_of base patches set = image_from 0 base (places_of patches) set

-- undo data: the bytes of each patch's range in the disk after all patches before it
abbrev pub AreUndo : Disk → List Patch → Type 0
AreUndo d [] = Unit {0}
AreUndo d (p ∷ ps) =
    (p.undo.items
    ≡ slice_range d.bytes (BLOCK_SIZE * p.block + p.offset) (BLOCK_SIZE * p.block + p.offset + length p.new.items))
    × AreUndo (with_bytes d p.block p.offset p.new.items) ps
