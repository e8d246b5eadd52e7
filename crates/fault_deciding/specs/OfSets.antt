-- What is asked of all sets of a family at once, and of the disks that they leave after replay.
use Rattle.std.specs.Prelude.{◌≡◌, ◌↔◌, ℕ, List, Bool, false, ◌||◌, nat_le, min, Option, Some, None}
use Rattle.std.specs.Prelude.{Result, Ok, Err}
use Rattle.patch_sets.specs.Sets.{Has}
use Rattle.crash_model.specs.Disk.{Disk}
use Rattle.crash_model.specs.Patches.{image_of}
use Rattle.crash_model.specs.Replay.{image_after_replay}
use Rattle.crash_model.specs.Promises.{Promise, is_allowed, is_spared, paths_show}
use Rattle.crash_model.specs.declared.promises.Allowance.{Allowance}
use Rattle.crash_model.specs.declared.showing.Shown.{Shown}
use Rattle.known_bytes.specs.Family.{Family, IsMember, IsUndecided}
use Rattle.known_bytes.specs.Reading.{Reading, disk_of}

-- the property holds of each set and of the disk that it leaves
abbrev pub InEachSet : Family → (ℕ → Disk → Type 0) → Type 0
InEachSet f P = (set : ℕ) → IsMember f set → P set (image_after_replay (image_of f.base f.patches set))

-- what each set has with its disk, or an undecided patch on which that depends
abbrev pub IsKnownOfSets : {X : Type 0} → Family → (ℕ → Disk → X) → Result X ℕ → Type 0
IsKnownOfSets f what (Ok value) = InEachSet f (λ set d. what set d ≡ value)
IsKnownOfSets f what (Err id) = IsUndecided f id

-- the property holds of each set and of the disk that is read of it
abbrev pub InEachRead : Reading → (ℕ → Disk → Type 0) → Type 0
InEachRead r P = (set : ℕ) → IsMember r.family set → P set (disk_of r (image_of r.family.base r.family.patches set))

-- what each set has with the disk that is read of it, or an undecided patch on which that depends
abbrev pub IsKnownRead : {X : Type 0} → Reading → (ℕ → Disk → X) → Result X ℕ → Type 0
IsKnownRead r what (Ok value) = InEachRead r (λ set d. what set d ≡ value)
IsKnownRead r what (Err id) = IsUndecided r.family id

-- the ids that are held, and those that are undecided
pub record AreIdsOf (f : Family) (held undecided : ℕ) : Type 0 where
  pub is_held : held ≡ f.held
  pub is_open : (id : ℕ) → (Has undecided id ↔ IsUndecided f id)

-- the least set, as a number, that may show this, if any may
abbrev pub IsLeastFor : List Allowance → List Shown → Option ℕ → Type 0
IsLeastFor allowed shows None = (set : ℕ) → is_allowed allowed set shows ≡ false
IsLeastFor allowed shows (Some least) = (set : ℕ) → is_allowed allowed set shows ≡ nat_le least set

-- the smaller of two numbers, or the second where there is no first
abbrev pub smaller_of : Option ℕ → ℕ → ℕ
smaller_of None b = b
smaller_of (Some a) b = min a b

-- a promise allows what its paths show on a disk, or something stands in
abbrev pub is_excused : Promise → ℕ → Disk → Bool
is_excused promise set d =
    is_allowed promise.allowed set (paths_show d promise.paths) || is_spared promise.spares d
