-- What an image says, as functions of numbers: no bytes and no offsets.
use Rattle.std.specs.Prelude.{◌≡◌, ◌≢◌, ℕ, zero, suc, ◌+◌, ◌<◌, ◌≤◌, ◌↔◌, List, Bool, true, false, ◌&&◌, ◌==◌, not}
use Rattle.std.specs.Prelude.{nat_lt, if◌then◌else◌}
use Rattle.crash_model.specs.declared.disk_bytes.TheConstants.{JOURNAL_AT, INODES, SLOTS, ENTRIES, FREE_KIND}
use Rattle.crash_model.specs.declared.disk_bytes.TheConstants.{FILE_KIND, DIRECTORY_KIND, FILE_MARK, DIRECTORY_MARK}
use Rattle.crash_model.specs.Disk.{Disk, byte}
use Rattle.crash_model.specs.Names.{IsName}
use Rattle.crash_model.specs.Layout.{kind_of, links_of, pointer_of, map_of, is_data, counts, entry_of, spelling_of}
use Rattle.crash_model.specs.Generations.{generation_of, mark_generation}
use Rattle.crash_model.specs.Plan.{name_spelling}
use Rattle.crash_model.specs.View.{View}

-- a place of a directory: free, or an entry that leads to an inode under a spelling
pub data Place : Type 0 where
  Free : Place
  Leads : ℕ → List ℕ → Place

-- what a block is marked as: nothing, or a block of an inode, of the generation that the inode has
pub data Mark : Type 0 where
  Plain : Mark
  FileOf : ℕ → Mark
  DirectoryOf : ℕ → Mark

pub record Tables : Type 0 where
  pub blocks : ℕ
  pub journal : ℕ
  pub kind : ℕ → ℕ
  pub links : ℕ → ℕ
  pub pointer : ℕ → ℕ → ℕ
  pub used : ℕ → Bool
  pub mark : ℕ → Mark
  pub entry : ℕ → ℕ → Place

-- ---- of a disk

abbrev pub place_at : Bool → ℕ → List ℕ → Place
place_at false first spelling = Free
place_at true zero spelling = Free
place_at true (suc inode) spelling = Leads inode spelling

abbrev pub mark_at : Bool → ℕ → ℕ → Mark
mark_at test first second =
    if test && first == FILE_MARK then FileOf second else if test
    && first == DIRECTORY_MARK then DirectoryOf second else Plain

-- a block of the data area whose mark has the generation of the inode that it names
abbrev pub is_current : Disk → ℕ → Bool
is_current d b =
    is_data d b && (nat_lt (byte d b 1) INODES && mark_generation d b == generation_of d (byte d b 1))

-- f below n, and above it nothing
abbrev pub within : {X : Type 0} → X → ℕ → (ℕ → X) → ℕ → X
within none n f j = if nat_lt j n then f j else none

abbrev pub place_of : Disk → ℕ → ℕ → Place
place_of d dir k = place_at (counts d dir) (entry_of d dir k) (spelling_of d dir k)

unfoldable pub tables_of : Disk → Tables
tables_of d = record {
  blocks = d.blocks;
  journal = d.journal;
  kind = within 0 16 (kind_of d);
  links = within 0 16 (links_of d);
  pointer = within (λ _. 0) 16 (λ i. within 0 4 (pointer_of d i));
  used = within false d.blocks (λ b. not (map_of d b == 0));
  mark = λ b. mark_at (is_current d b) (byte d b 0) (byte d b 1);
  entry = within (λ _. Free) 16 (λ dir. within Free 10 (place_of d dir));
}

-- ---- changes of one table

abbrev pub with_value : {X : Type 0} → (ℕ → X) → ℕ → X → ℕ → X
with_value f i v j = if j == i then v else f j

abbrev pub with_inode : Tables → ℕ → ℕ → ℕ → Tables
with_inode t i kind links =
    record t {
      kind = with_value t.kind i kind;
      links = with_value t.links i links;
      pointer = with_value t.pointer i (λ _. 0);
    }

abbrev pub with_links : Tables → ℕ → ℕ → Tables
with_links t i links = record t { links = with_value t.links i links }

abbrev pub with_pointer : Tables → ℕ → ℕ → ℕ → Tables
with_pointer t i s b = record t { pointer = with_value t.pointer i (with_value (t.pointer i) s b) }

abbrev pub with_used : Tables → ℕ → Bool → Tables
with_used t b bit = record t { used = with_value t.used b bit }

abbrev pub with_mark : Tables → ℕ → Mark → Tables
with_mark t b mark = record t { mark = with_value t.mark b mark }

abbrev pub with_place : (ℕ → ℕ → Place) → ℕ → ℕ → Place → ℕ → ℕ → Place
with_place entry dir k place = with_value entry dir (with_value (entry dir) k place)

abbrev pub with_entry : Tables → ℕ → ℕ → Place → Tables
with_entry t dir k place = record t { entry = with_place t.entry dir k place }

-- ---- the view of tables, as that of a disk

abbrev pub NameIn : Tables → ℕ → List ℕ → ℕ → Type 0
NameIn t dir name inode = (place : ℕ) × (t.entry dir place ≡ Leads inode (name_spelling name))

abbrev pub InodeIn : Tables → ℕ → ℕ → ℕ → Type 0
InodeIn t inode kind links = (t.kind inode ≡ kind) × (t.links inode ≡ links) × (kind ≢ FREE_KIND)

-- a slot of a live inode names a block
abbrev pub HasPointer : (ℕ → ℕ) → (ℕ → ℕ → ℕ) → ℕ → ℕ → ℕ → Type 0
HasPointer kind pointer i s b = (kind i ≢ FREE_KIND) × (pointer i s ≡ b) × (b ≢ 0)

abbrev pub UsedIn : Tables → ℕ → Type 0
UsedIn t block = (4 + t.journal ≤ block) × (t.used block ≡ true)

abbrev pub view : Tables → View
view t = record { name = NameIn t; inode = InodeIn t; pointer = HasPointer t.kind t.pointer; used = UsedIn t }

-- two views have the same members
pub record SameView (v w : View) : Type 0 where
  pub names : (dir : ℕ) (name : List ℕ) (i : ℕ) → (v.name dir name i ↔ w.name dir name i)
  pub inodes : (i kind links : ℕ) → (v.inode i kind links ↔ w.inode i kind links)
  pub pointers : (i s b : ℕ) → (v.pointer i s b ↔ w.pointer i s b)
  pub used_blocks : (b : ℕ) → (v.used b ↔ w.used b)

-- ---- what operations make of them

abbrev pub tables_after_create : Tables → ℕ → ℕ → ℕ → List ℕ → Tables
tables_after_create t dir k i name = with_entry (with_inode t i FILE_KIND 1) dir k (Leads i (name_spelling name))

-- a file has one more block
abbrev pub tables_after_write : Tables → ℕ → ℕ → ℕ → Tables
tables_after_write t i s b = with_pointer (with_mark (with_used t b true) b (FileOf i)) i s b

-- a file has one more name
abbrev pub tables_after_link : Tables → ℕ → ℕ → ℕ → List ℕ → Tables
tables_after_link t dir k i name = with_entry (with_links t i (t.links i + 1)) dir k (Leads i (name_spelling name))

-- a file has one name less, and this many links
abbrev pub tables_after_unlink : Tables → ℕ → ℕ → ℕ → ℕ → Tables
tables_after_unlink t dir k i links = with_links (with_entry t dir k Free) i links

-- an inode is gone with its name; these blocks are in use, and marked so
abbrev pub tables_after_removal : Tables → ℕ → ℕ → ℕ → (ℕ → Bool) → (ℕ → Mark) → Tables
tables_after_removal t dir k i used mark = record t {
  kind = with_value t.kind i FREE_KIND;
  links = with_value t.links i 0;
  pointer = with_value t.pointer i (λ _. 0);
  used = used;
  mark = mark;
  entry = with_place t.entry dir k Free;
}

-- the second marks are the first ones for blocks of all inodes but one
pub record KeepsMarks (old new : ℕ → Mark) (i : ℕ) : Type 0 where
  pub files : (b j : ℕ) → j ≢ i → old b ≡ FileOf j → new b ≡ FileOf j
  pub directories : (b j : ℕ) → j ≢ i → old b ≡ DirectoryOf j → new b ≡ DirectoryOf j

-- a file has no blocks, and these are in use
abbrev pub tables_after_truncate : Tables → ℕ → (ℕ → Bool) → Tables
tables_after_truncate t i used = record t { pointer = with_value t.pointer i (λ _. 0); used = used }

-- a new directory with its block
abbrev pub tables_after_mkdir : Tables → ℕ → ℕ → ℕ → ℕ → List ℕ → Tables
tables_after_mkdir t dir k i b name =
    with_entry
    (with_pointer (with_mark (with_used (with_inode t i DIRECTORY_KIND 1) b true) b (DirectoryOf i)) i 0 b)
    dir k (Leads i (name_spelling name))

-- ---- sound tables: four groups of facts, each stated for only the tables that it needs

-- 1 where the place leads to the inode
abbrev pub leads : Place → ℕ → ℕ
leads Free i = 0
leads (Leads j spelling) i = if j == i then 1 else 0

unfoldable pub sum_below : ℕ → (ℕ → ℕ) → ℕ
sum_below zero f = 0
sum_below (suc n) f = sum_below n f + f n

-- how many entries lead to an inode
abbrev pub count_to : (ℕ → ℕ → Place) → ℕ → ℕ
count_to entry i = sum_below 16 (λ dir. sum_below 10 (λ k. leads (entry dir k) i))

-- an inode is reached from inode 0 in n steps
abbrev pub ReachedIn : (ℕ → ℕ → Place) → ℕ → ℕ → Type 0
ReachedIn entry zero i = i ≡ 0
ReachedIn entry (suc n) i =
    (dir : ℕ) × (k : ℕ) × (spelling : List ℕ) × (entry dir k ≡ Leads i spelling) × ReachedIn entry n dir

pub record SoundBlocks (blocks journal : ℕ) (kind : ℕ → ℕ) (pointer : ℕ → ℕ → ℕ) (mark : ℕ → Mark)
    (used : ℕ → Bool) : Type 0 where
  pub slots : (i s : ℕ) → pointer i s ≢ 0 → s < SLOTS
  pub once : (b i s j r : ℕ) → HasPointer kind pointer i s b → HasPointer kind pointer j r b → (i ≡ j) × (s ≡ r)
  pub file_blocks : (i s b : ℕ) → HasPointer kind pointer i s b → kind i ≡ FILE_KIND → mark b ≡ FileOf i
  pub directory_blocks : (i s b : ℕ) → HasPointer kind pointer i s b → kind i ≡ DIRECTORY_KIND → mark b ≡ DirectoryOf i
  pub in_data_area : (i s b : ℕ) → HasPointer kind pointer i s b → (JOURNAL_AT + journal ≤ b) × (b < blocks)
  pub root_block : pointer 0 0 ≡ JOURNAL_AT + journal
  pub one_block : (i : ℕ) → kind i ≡ DIRECTORY_KIND → (pointer i 0 ≢ 0) × ((s : ℕ) → s ≢ 0 → pointer i s ≡ 0)
  pub packed : (i s : ℕ) → kind i ≡ FILE_KIND → pointer i s ≡ 0 → pointer i (s + 1) ≡ 0
  pub low_used : (b : ℕ) → b < JOURNAL_AT + journal → used b ≡ true
  pub named_used : (i s b : ℕ) → HasPointer kind pointer i s b → used b ≡ true
  pub used_named : (b : ℕ) → JOURNAL_AT + journal ≤ b → used b ≡ true
      → (i : ℕ) × (s : ℕ) × HasPointer kind pointer i s b

pub record SoundInodes (kind links : ℕ → ℕ) : Type 0 where
  pub below : (i : ℕ) → kind i ≢ FREE_KIND → i < INODES
  pub root : (kind 0 ≡ DIRECTORY_KIND) × (links 0 ≡ 1)
  pub kinds : (i : ℕ) → kind i < 3
  pub one_name : (i : ℕ) → kind i ≡ DIRECTORY_KIND → links i ≡ 1
  pub few_names : (i : ℕ) → kind i ≡ FILE_KIND → (1 ≤ links i) × (links i ≤ 8)

pub record SoundNames (kind : ℕ → ℕ) (entry : ℕ → ℕ → Place) : Type 0 where
  pub places : (dir k i : ℕ) (spelling : List ℕ) → entry dir k ≡ Leads i spelling → (dir < INODES) × (k < ENTRIES)
  pub parents : (dir k i : ℕ) (spelling : List ℕ) → entry dir k ≡ Leads i spelling → kind dir ≡ DIRECTORY_KIND
  pub no_dangling : (dir k i : ℕ) (spelling : List ℕ) → entry dir k ≡ Leads i spelling → kind i ≢ FREE_KIND
  pub no_way_up : (dir k i : ℕ) (spelling : List ℕ) → entry dir k ≡ Leads i spelling → i ≢ 0
  pub named : (dir k i : ℕ) (spelling : List ℕ) → entry dir k ≡ Leads i spelling → (name : List ℕ) × IsName name
      × (spelling ≡ name_spelling name)
  pub distinct : (dir j k i h : ℕ) (spelling : List ℕ) → entry dir j ≡ Leads i spelling → entry dir k ≡ Leads h spelling
      → j ≡ k
  pub reached : (i : ℕ) → kind i ≢ FREE_KIND → (n : ℕ) × ReachedIn entry n i

pub record SoundCounts (kind links : ℕ → ℕ) (entry : ℕ → ℕ → Place) : Type 0 where
  pub counted : (i : ℕ) → i ≢ 0 → kind i ≢ FREE_KIND → count_to entry i ≡ links i

pub record Sound (t : Tables) : Type 0 where
  pub blocks : SoundBlocks t.blocks t.journal t.kind t.pointer t.mark t.used
  pub inodes : SoundInodes t.kind t.links
  pub names : SoundNames t.kind t.entry
  pub counts : SoundCounts t.kind t.links t.entry
