-- Lists that have the faults which the disks of a family can have after replay.
use Rattle.std.specs.Prelude.{◌≡◌, ◌≢◌, ℕ, ◌+◌, ◌<◌, ◌≤◌, List, length, slice_index, true, false, Option, Some, None}
use Rattle.std.specs.List.{All, Contains}
use Rattle.crash_model.specs.declared.disk_bytes.TheConstants.{INODES}
use Rattle.crash_model.specs.Disk.{Disk}
use Rattle.crash_model.specs.Layout.{pointer_of, links_of, target_of, is_data}
use Rattle.crash_model.specs.Faults.{is_dangling, entries_to}
use Rattle.crash_model.specs.Replay.{image_after_replay}
use Rattle.crash_model.specs.Checker.{Demands, all_faults, faults_under}
use Rattle.crash_model.specs.Promises.{Promise}
use Rattle.crash_model.specs.declared.fault.Fault.{Fault}
use Rattle.crash_model.specs.declared.fault.Fault.TheVariants.{Dangling, Twice, Unwritten, LowLinks, MarkedFree, Wild}
use Rattle.crash_model.specs.declared.fault.Fault.TheVariants.{Lost, NoBlock, HalfDone, BrokenPromise}
use Rattle.patch_sets.specs.Sets.{Has}
use Rattle.known_bytes.specs.Counts.{entries_in}
use Rattle.known_bytes.specs.Family.{Family, InEach, HasValue}
use Rattle.known_bytes.specs.SetFaults.{set_has_fault}
use Rattle.fault_deciding.specs.OfSets.{InEachSet}

-- the property holds of each disk of a family after replay
abbrev pub InEachReplayed : Family → (Disk → Type 0) → Type 0
InEachReplayed f P = InEach f (λ d. P (image_after_replay d))

-- each fault of the first list is in the second
abbrev pub IsWithin : List Fault → List Fault → Type 0
IsWithin old new = (fault : Fault) → Contains old fault → Contains new fault

-- ---- entries

-- an entry that dangles is listed; its inode is one that a byte can name
abbrev pub HasDangling : List Fault → ℕ → ℕ → Disk → Type 0
HasDangling faults dir k d =
    is_dangling d dir k ≡ true → (target_of d dir k < 255) × Contains faults (Dangling dir k (target_of d dir k))

-- at most one entry more is counted, and one is that names the inode with one of the values
pub record CountsOne (low high inode old new : ℕ) : Type 0 where
  pub least : old ≤ new
  pub named : HasValue low high (inode + 1) → old < new
  pub most : new ≤ old + 1

-- for each inode as many more are counted as lead to it of the first n entries of a directory
abbrev pub AreCounted : ℕ → ℕ → List ℕ → List ℕ → Disk → Type 0
AreCounted n dir old new d =
    (inode : ℕ) → inode < INODES → slice_index old inode + entries_in n d inode dir ≤ slice_index new inode

-- each of 16 counts is at most a number
abbrev pub AreAtMost : ℕ → List ℕ → Type 0
AreAtMost most counts = (inode : ℕ) → inode < INODES → slice_index counts inode ≤ most

-- for each inode at most as many entries lead to it as are counted
abbrev pub AreMost : List ℕ → Disk → Type 0
AreMost most d = (inode : ℕ) → inode < INODES → length (entries_to d inode) ≤ slice_index most inode

-- ---- slots

-- the two faults of a slot that names a block of the data area are listed
pub record HasTame (faults : List Fault) (inode slot block : ℕ) : Type 0 where
  pub unwritten : Contains faults (Unwritten inode slot block)
  pub marked_free : Contains faults (MarkedFree inode slot block)

-- the faults of a slot that names a block are listed, by whether the block is one of the data area
pub record HasSlot (faults : List Fault) (inode slot block : ℕ) (d : Disk) : Type 0 where
  pub tame : is_data d block ≡ true → HasTame faults inode slot block
  pub wild : is_data d block ≡ false → Contains faults (Wild inode slot block)

-- the faults of a slot are listed, if it names a block
abbrev pub HasFaultsOf : List Fault → ℕ → ℕ → Disk → Type 0
HasFaultsOf faults inode slot d =
    pointer_of d inode slot ≢ 0 → HasSlot faults inode slot (pointer_of d inode slot) d

-- ---- blocks, links and inodes

-- each block of the data area is listed as one that is used twice
abbrev pub HasTwice : List Fault → Disk → Type 0
HasTwice faults d = (block : ℕ) → is_data d block ≡ true → Contains faults (Twice block)

-- each number of entries above an inode's links and up to a number is listed
abbrev pub HasLow : List Fault → ℕ → ℕ → Disk → Type 0
HasLow faults inode most d =
    (entries : ℕ) → links_of d inode < entries → entries ≤ most
    → Contains faults (LowLinks inode entries (links_of d inode))

-- the faults of an inode are listed that a strict checker can find
pub record HasStrict (faults : List Fault) (kept inode : ℕ) : Type 0 where
  pub lost : Has kept inode → Contains faults (Lost inode)
  pub bare : Contains faults (NoBlock inode)

-- for each inode, where a checker is strict
abbrev pub HasStrictUnder : Option ℕ → List Fault → Type 0
HasStrictUnder None faults = Unit {0}
HasStrictUnder (Some kept) faults = (inode : ℕ) → inode < INODES → HasStrict faults kept inode

-- the fault of whole operations is listed, where an image is to show one of some disks
abbrev pub HasHalfDone : Option (List Disk) → List Fault → Type 0
HasHalfDone None faults = Unit {0}
HasHalfDone (Some disks) faults = Contains faults HalfDone

-- each line of a promise is listed
abbrev pub HasPromised : List Promise → List Fault → Type 0
HasPromised promises faults = All (λ promise. Contains faults (BrokenPromise promise.line)) promises

-- ---- all faults

-- the list has each fault that any set of the family has, whether it counts or not
abbrev pub HasEach : Demands → Family → List Fault → Type 0
HasEach demands f faults =
    InEachSet f (λ set d. (fault : Fault) → Contains (all_faults demands set d) fault → Contains faults fault)

-- the list has each that counts
abbrev pub HasAllFaults : Demands → Family → List Fault → Type 0
HasAllFaults demands f faults =
    InEachSet f (λ set d. (fault : Fault) → Contains (faults_under demands set d) fault → Contains faults fault)

-- the test of a text finds each fault that any set of the family has
abbrev pub AreFoundByText : Demands → Family → Type 0
AreFoundByText demands f =
    InEachSet f (λ set d. (fault : Fault) → Contains (faults_under demands set d) fault
    → set_has_fault demands set d fault ≡ true)
