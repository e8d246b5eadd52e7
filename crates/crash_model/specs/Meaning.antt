-- What each operation means for a disk's view, and when it is refused.
use Rattle.std.specs.Prelude.{◌≡◌, ◌≢◌, ℕ, ◌+◌, ◌<◌, ◌≤◌, ◌⊎◌, ◌↔◌, List, [], ◌∷◌, Option, Some, None}
use Rattle.crash_model.specs.declared.disk_bytes.TheConstants.{JOURNAL_AT, INODES, SLOTS, MOST_LINKS, ENTRIES}
use Rattle.crash_model.specs.declared.disk_bytes.TheConstants.{FILE_KIND, DIRECTORY_KIND}
use Rattle.crash_model.specs.View.{View}
use Rattle.crash_model.specs.declared.names.Path.{Path}
use Rattle.crash_model.specs.declared.operations.Op.{Op}
use Rattle.crash_model.specs.declared.operations.Op.TheVariants.{Create, Write, Link, Unlink, Rename, Mkdir, Rmdir}
use Rattle.crash_model.specs.declared.operations.Op.TheVariants.{Overwrite, Truncate, Replace}
use Rattle.crash_model.specs.declared.operations.Slot.{Slot}
use Rattle.crash_model.specs.Slots.{slot_number}
use Rattle.crash_model.specs.declared.refusals.FsFault.{FsFault}
use Rattle.crash_model.specs.declared.refusals.FsFault.TheVariants.{NotFound, NotADirectory, Exists, NotAFile, NotEmpty}
use Rattle.crash_model.specs.declared.refusals.FsFault.TheVariants.{NoInode, NoBlock, DirectoryFull, FileFull}
use Rattle.crash_model.specs.declared.refusals.FsFault.TheVariants.{LinksFull}

-- ---- what is gained and lost

abbrev pub nothing : View
nothing = record { name = λ _ _ _. ⊥; inode = λ _ _ _. ⊥; pointer = λ _ _ _. ⊥; used = λ _. ⊥ }

abbrev pub with_name : View → ℕ → List ℕ → ℕ → View
with_name v dir name inode = record v { name = λ d n i. (d ≡ dir) × (n ≡ name) × (i ≡ inode) }

abbrev pub with_inode : View → ℕ → ℕ → ℕ → View
with_inode v inode kind links = record v { inode = λ i k l. (i ≡ inode) × (k ≡ kind) × (l ≡ links) }

abbrev pub with_block : View → ℕ → ℕ → ℕ → View
with_block v inode slot block =
    record v { pointer = λ i s b. (i ≡ inode) × (s ≡ slot) × (b ≡ block); used = λ b. b ≡ block }

-- the names of the first view, and one more
abbrev pub with_further_name : View → ℕ → List ℕ → ℕ → View
with_further_name v dir name inode =
    record v { name = λ d n i. v.name d n i ⊎ ((d ≡ dir) × (n ≡ name) × (i ≡ inode)) }

-- the blocks that an inode has in a view
abbrev pub with_blocks_of : View → View → ℕ → View
with_blocks_of v old inode =
    record v { pointer = λ i _ _. i ≡ inode; used = λ b. (s : ℕ) × old.pointer inode s b }

-- an inode with all that it has, in a view
abbrev pub with_all_of : View → View → ℕ → View
with_all_of v old inode = record (with_blocks_of v old inode) { inode = λ i _ _. i ≡ inode }

-- the new set has what the old one had and was not lost, and what was gained
pub record Becomes (old new gained lost : View) : Type 0 where
  pub names : (dir : ℕ) (name : List ℕ) (i : ℕ)
      → (new.name dir name i ↔ ((old.name dir name i × (¬ (lost.name dir name i))) ⊎ gained.name dir name i))
  pub inodes : (i kind links : ℕ)
      → (new.inode i kind links
      ↔ ((old.inode i kind links × (¬ (lost.inode i kind links))) ⊎ gained.inode i kind links))
  pub pointers : (i s b : ℕ)
      → (new.pointer i s b ↔ ((old.pointer i s b × (¬ (lost.pointer i s b))) ⊎ gained.pointer i s b))
  pub used_blocks : (b : ℕ) → (new.used b ↔ ((old.used b × (¬ (lost.used b))) ⊎ gained.used b))

pub record IsLowest (P : ℕ → Type 0) (n : ℕ) : Type 0 where
  pub here : P n
  pub lower : (m : ℕ) → m < n → ¬ (P m)

abbrev pub IsInode : View → ℕ → Type 0
IsInode v i = (kind : ℕ) × (links : ℕ) × v.inode i kind links

abbrev pub IsFreeInode : View → ℕ → Type 0
IsFreeInode v i = (i < INODES) × (¬ (IsInode v i))

abbrev pub IsFreeBlock : ℕ → ℕ → View → ℕ → Type 0
IsFreeBlock blocks journal v b = (JOURNAL_AT + journal ≤ b) × (b < blocks) × (¬ (v.used b))

abbrev pub IsFreeSlot : View → ℕ → ℕ → Type 0
IsFreeSlot v i s = (s < SLOTS) × ((b : ℕ) → ¬ (v.pointer i s b))

-- ---- what each operation gains and loses

pub record MeansCreate (old new : View) (dir : ℕ) (name : List ℕ) : Type 0 where
  pub inode : ℕ
  pub lowest : IsLowest (IsFreeInode old) inode
  pub becomes : Becomes old new (with_inode (with_name nothing dir name inode) inode FILE_KIND 1) nothing

pub record MeansWrite (blocks journal : ℕ) (old new : View) (target : ℕ) : Type 0 where
  pub slot : ℕ
  pub block : ℕ
  pub lowest_slot : IsLowest (IsFreeSlot old target) slot
  pub lowest_block : IsLowest (IsFreeBlock blocks journal old) block
  pub becomes : Becomes old new (with_block nothing target slot block) nothing

pub record MeansLink (old new : View) (target dir : ℕ) (name : List ℕ) : Type 0 where
  pub links : ℕ
  pub had : old.inode target FILE_KIND links
  pub becomes : Becomes old new (with_inode (with_name nothing dir name target) target FILE_KIND (links + 1))
      (with_inode nothing target FILE_KIND links)

-- `unlink` where other names are left
pub record MeansUnlinkOne (old new : View) (dir : ℕ) (name : List ℕ) (target : ℕ) : Type 0 where
  pub left : ℕ
  pub some : 0 < left
  pub had : old.inode target FILE_KIND (left + 1)
  pub becomes : Becomes old new (with_inode nothing target FILE_KIND left)
      (with_inode (with_name nothing dir name target) target FILE_KIND (left + 1))

-- `unlink` of the last name
pub record MeansUnlinkLast (old new : View) (dir : ℕ) (name : List ℕ) (target : ℕ) : Type 0 where
  pub had : old.inode target FILE_KIND 1
  pub becomes : Becomes old new nothing (with_all_of (with_name nothing dir name target) old target)

pub record MeansRename (old new : View) (old_dir : ℕ) (old_name : List ℕ) (target dir : ℕ)
    (name : List ℕ) : Type 0 where
  pub becomes : Becomes old new (with_name nothing dir name target) (with_name nothing old_dir old_name target)

pub record MeansMkdir (blocks journal : ℕ) (old new : View) (dir : ℕ) (name : List ℕ) : Type 0 where
  pub inode : ℕ
  pub block : ℕ
  pub lowest_inode : IsLowest (IsFreeInode old) inode
  pub lowest_block : IsLowest (IsFreeBlock blocks journal old) block
  pub becomes : Becomes old new
      (with_block (with_inode (with_name nothing dir name inode) inode DIRECTORY_KIND 1) inode 0 block) nothing

pub record MeansRmdir (old new : View) (dir : ℕ) (name : List ℕ) (target : ℕ) : Type 0 where
  pub had : old.inode target DIRECTORY_KIND 1
  pub becomes : Becomes old new nothing (with_all_of (with_name nothing dir name target) old target)

-- `overwrite` writes data alone, which no view has
abbrev pub MeansOverwrite : View → View → Type 0
MeansOverwrite old new = Becomes old new nothing nothing

abbrev pub MeansTruncate : View → View → ℕ → Type 0
MeansTruncate old new target = Becomes old new nothing (with_blocks_of nothing old target)

-- the names that a `replace` takes away: the old one, and the new one from the other file
abbrev pub names_replaced : ℕ → List ℕ → ℕ → ℕ → List ℕ → ℕ → View
names_replaced old_dir old_name target dir name other =
    with_further_name (with_name nothing old_dir old_name target) dir name other

-- `replace` where the other file has other names left
pub record MeansReplaceOne (old new : View) (old_dir : ℕ) (old_name : List ℕ) (target dir : ℕ) (name : List ℕ)
    (other : ℕ) : Type 0 where
  pub left : ℕ
  pub some : 0 < left
  pub had : old.inode other FILE_KIND (left + 1)
  pub becomes : Becomes old new (with_inode (with_name nothing dir name target) other FILE_KIND left)
      (with_inode (names_replaced old_dir old_name target dir name other) other FILE_KIND (left + 1))

-- `replace` of the other file's last name
pub record MeansReplaceLast (old new : View) (old_dir : ℕ) (old_name : List ℕ) (target dir : ℕ) (name : List ℕ)
    (other : ℕ) : Type 0 where
  pub had : old.inode other FILE_KIND 1
  pub becomes : Becomes old new (with_name nothing dir name target)
      (with_all_of (names_replaced old_dir old_name target dir name other) old other)

-- ---- where paths lead

abbrev pub IsKind : View → ℕ → ℕ → Type 0
IsKind v i kind = (links : ℕ) × v.inode i kind links

abbrev pub LeadsTo : View → ℕ → List ℕ → Type 0
LeadsTo v dir name = (i : ℕ) × v.name dir name i

abbrev pub Walks : View → ℕ → List (List ℕ) → ℕ → Type 0
Walks v from [] to = to ≡ from
Walks v from (name ∷ names) to =
    (child : ℕ) × v.name from name child × IsKind v child DIRECTORY_KIND × Walks v child names to

-- the first name that fails decides
abbrev pub WalkFails : View → ℕ → List (List ℕ) → FsFault → Type 0
WalkFails v from [] fault = ⊥
WalkFails v from (name ∷ names) fault =
    ((¬ (LeadsTo v from name)) × (fault ≡ NotFound))
    ⊎ ((child : ℕ) × v.name from name child
    × (((¬ (IsKind v child DIRECTORY_KIND)) × (fault ≡ NotADirectory))
    ⊎ (IsKind v child DIRECTORY_KIND × WalkFails v child names fault)))

-- ---- what an operation means, from the directories that its paths lead to

-- the directory that a path's names but the last lead to
abbrev pub IsParent : View → Path → ℕ → Type 0
IsParent v path dir = Walks v 0 path.through.items dir

-- the inode that a path leads to, and its directory
abbrev pub IsTarget : View → Path → ℕ → ℕ → Type 0
IsTarget v path dir inode = IsParent v path dir × v.name dir path.last inode

abbrev pub Means : ℕ → ℕ → View → View → Op → Type 0
Means blocks journal old new (Create path) = (dir : ℕ) × IsParent old path dir × MeansCreate old new dir path.last
Means blocks journal old new (Write path) =
    (dir : ℕ) × (target : ℕ) × IsTarget old path dir target × MeansWrite blocks journal old new target
Means blocks journal old new (Link path link) =
    (old_dir : ℕ) × (target : ℕ) × (dir : ℕ) × IsTarget old path old_dir target × IsParent old link dir
    × MeansLink old new target dir link.last
Means blocks journal old new (Unlink path) =
    (dir : ℕ) × (target : ℕ) × IsTarget old path dir target
    × (MeansUnlinkOne old new dir path.last target ⊎ MeansUnlinkLast old new dir path.last target)
Means blocks journal old new (Rename path link) =
    (old_dir : ℕ) × (target : ℕ) × (dir : ℕ) × IsTarget old path old_dir target × IsParent old link dir
    × MeansRename old new old_dir path.last target dir link.last
Means blocks journal old new (Mkdir path) =
    (dir : ℕ) × IsParent old path dir × MeansMkdir blocks journal old new dir path.last
Means blocks journal old new (Rmdir path) =
    (dir : ℕ) × (target : ℕ) × IsTarget old path dir target × MeansRmdir old new dir path.last target
Means blocks journal old new (Overwrite path slot) =
    (dir : ℕ) × (target : ℕ) × IsTarget old path dir target × MeansOverwrite old new
Means blocks journal old new (Truncate path) =
    (dir : ℕ) × (target : ℕ) × IsTarget old path dir target × MeansTruncate old new target
Means blocks journal old new (Replace path link) =
    (old_dir : ℕ) × (target : ℕ) × (dir : ℕ) × (other : ℕ) × IsTarget old path old_dir target
    × IsTarget old link dir other
    × (MeansReplaceOne old new old_dir path.last target dir link.last other
    ⊎ MeansReplaceLast old new old_dir path.last target dir link.last other)

-- ---- refusals: the first test that fails decides

pub record Test : Type 1 where
  pub fails : Type 0
  pub fault : FsFault

abbrev pub RefusedBy : List Test → FsFault → Type 0
RefusedBy [] fault = ⊥
RefusedBy (test ∷ tests) fault = (test.fails × (fault ≡ test.fault)) ⊎ ((¬ test.fails) × RefusedBy tests fault)

abbrev pub test : Type 0 → FsFault → Test
test fails fault = record { fails = fails; fault = fault }

-- ten different names
abbrev pub IsFull : View → ℕ → Type 0
IsFull v dir =
    (name : ℕ → List ℕ) × ((k : ℕ) → k < ENTRIES → LeadsTo v dir (name k))
    × ((j k : ℕ) → j < k → k < ENTRIES → name j ≢ name k)

abbrev pub NoInodeLeft : View → Type 0
NoInodeLeft v = (i : ℕ) → i < INODES → IsInode v i

abbrev pub NoBlockLeft : ℕ → ℕ → View → Type 0
NoBlockLeft blocks journal v = (b : ℕ) → ¬ (IsFreeBlock blocks journal v b)

-- at the directory and the name of a path
abbrev pub AtPath : View → Path → (ℕ → FsFault → Type 0) → FsFault → Type 0
AtPath v path Then fault = WalkFails v 0 path.through.items fault ⊎ ((dir : ℕ) × IsParent v path dir × Then dir fault)

-- and at the inode that it leads to
abbrev pub AtName : View → Path → (ℕ → ℕ → FsFault → Type 0) → FsFault → Type 0
AtName v path Then fault =
    AtPath v path (λ dir f. ((¬ (LeadsTo v dir path.last)) × (f ≡ NotFound))
    ⊎ ((i : ℕ) × v.name dir path.last i × Then dir i f)) fault

abbrev pub Relinks : View → Path → Path → FsFault → Type 0
Relinks v old new = AtName v old (λ _ i. AtPath v new (λ dir. RefusedBy
    (test (LeadsTo v dir new.last) Exists ∷ test (¬ (IsKind v i FILE_KIND)) NotAFile ∷ test (IsFull v dir) DirectoryFull
    ∷ test (v.inode i FILE_KIND MOST_LINKS) LinksFull ∷ [])))

-- a slot that is asked for names no block
abbrev pub LacksBlockIn : View → ℕ → Option Slot → Type 0
LacksBlockIn v i None = ⊥
LacksBlockIn v i (Some slot) = (b : ℕ) → ¬ (v.pointer i (slot_number slot) b)

abbrev pub IsRefused : ℕ → ℕ → View → Op → FsFault → Type 0
IsRefused blocks journal v (Create path) = AtPath v path (λ dir. RefusedBy
    (test (LeadsTo v dir path.last) Exists ∷ test (NoInodeLeft v) NoInode ∷ test (IsFull v dir) DirectoryFull ∷ []))
IsRefused blocks journal v (Write path) = AtName v path (λ _ i. RefusedBy
    (test (¬ (IsKind v i FILE_KIND)) NotAFile ∷ test (NoBlockLeft blocks journal v) NoBlock
    ∷ test ((s : ℕ) → ¬ (IsFreeSlot v i s)) FileFull ∷ []))
IsRefused blocks journal v (Link old new) = Relinks v old new
IsRefused blocks journal v (Unlink path) =
    AtName v path (λ _ i. RefusedBy (test (¬ (IsKind v i FILE_KIND)) NotAFile ∷ []))
IsRefused blocks journal v (Rename old new) = Relinks v old new
IsRefused blocks journal v (Mkdir path) = AtPath v path (λ dir. RefusedBy
    (test (LeadsTo v dir path.last) Exists ∷ test (NoInodeLeft v) NoInode ∷ test (NoBlockLeft blocks journal v) NoBlock
    ∷ test (IsFull v dir) DirectoryFull ∷ []))
IsRefused blocks journal v (Rmdir path) = AtName v path (λ _ i. RefusedBy
    (test (¬ (IsKind v i DIRECTORY_KIND)) NotADirectory ∷ test ((name : List ℕ) × LeadsTo v i name) NotEmpty ∷ []))
IsRefused blocks journal v (Overwrite path slot) = AtName v path (λ _ i. RefusedBy
    (test (¬ (IsKind v i FILE_KIND)) NotAFile ∷ test (LacksBlockIn v i slot) NotFound ∷ []))
IsRefused blocks journal v (Truncate path) =
    AtName v path (λ _ i. RefusedBy (test (¬ (IsKind v i FILE_KIND)) NotAFile ∷ []))
IsRefused blocks journal v (Replace old new) = AtName v old (λ _ i. AtName v new (λ _ j. RefusedBy
    (test (¬ (IsKind v i FILE_KIND)) NotAFile ∷ test (¬ (IsKind v j FILE_KIND)) NotAFile ∷ test (i ≡ j) Exists
    ∷ test (v.inode i FILE_KIND MOST_LINKS) LinksFull ∷ [])))
