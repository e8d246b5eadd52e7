-- The tables of a sound disk after the changes of an accepted operation.
use Rattle.std.proofs.Common.{◌≡◌, ◌≢◌, ℕ, ◌+◌, ◌-◌, ◌<◌, ◌≤◌, inl, inr, List, [], ◌∷◌, Bool, true, false, arith, refl}
use Rattle.std.proofs.Common.{sym, ◌∙◌, ap, subst}
use Rattle.std.proofs.lemmas.Bool.{cases_eq, cases_lt, lt-ltb, le-ltb, false≢true}
use Rattle.crash_model.specs.Disk.{Disk, IsDisk}
use Rattle.crash_model.specs.Names.{IsName}
use Rattle.crash_model.specs.Lists.{some_below}
use Rattle.crash_model.specs.Layout.{kind_of, links_of, pointer_of, is_data, target_of, is_entry}
use Rattle.crash_model.specs.Generations.{generation_of}
use Rattle.crash_model.specs.Plan.{name_spelling, inode_init, inode_free, map_set, map_clears, map_clear_at, init_block}
use Rattle.crash_model.specs.Plan.{pointer_set, entry_set, entry_clear, link_count, has_entries, with_changes}
use Rattle.crash_model.specs.declared.names.Path.{Path}
use Rattle.crash_model.specs.declared.plans.Change.{Change}
use Rattle.crash_model.specs.declared.plans.Role.TheVariants.{InitFile, InitDir, LinkUp, LinkDown}
use Rattle.soundness_laws.specs.Tables.{Tables, Place, tables_of, with_value, with_inode, with_links, with_pointer}
use Rattle.soundness_laws.specs.Tables.{with_used, with_mark, with_entry, with_place, tables_after_create}
use Rattle.soundness_laws.specs.Tables.{tables_after_write, tables_after_link, tables_after_unlink}
use Rattle.soundness_laws.specs.Tables.{tables_after_removal, tables_after_mkdir, HasPointer, Sound, Mark, KeepsMarks}
use Rattle.soundness_laws.specs.Tables.{place_of}
use Rattle.soundness_laws.specs.Tables.Place.{Free, Leads}
use Rattle.soundness_laws.specs.Tables.Mark.{FileOf, DirectoryOf}
use Rattle.soundness_laws.proofs.Sums.{with_value-same, with_value-other}
use Rattle.soundness_laws.proofs.Names.{left_back}
use Rattle.soundness_laws.proofs.OnTables.{place-no_directory, place-no_block}
use Rattle.soundness_laws.proofs.ByTables.{kind-at, pointer-at, entry-at, entry-bytes}
use Rattle.soundness_laws.proofs.Views.{links-at, entry-is}
use Rattle.soundness_laws.proofs.Searches.{first_below-is_none}
use Rattle.soundness_laws.proofs.Answered.{none-found}
use Rattle.soundness_laws.proofs.FromTables.{area}
use Rattle.soundness_laws.proofs.Inodes.{not-fresh}
use Rattle.soundness_laws.proofs.Blocks.{FreesBlocks}
use Rattle.soundness_laws.proofs.Steps.{Stands, init-makes, free-makes, links-makes, pointer-makes, pointer-kind}
use Rattle.soundness_laws.proofs.Steps.{empty-place, map_set-makes, block-makes, set-makes, clear-makes, free-keeps}
use Rattle.soundness_laws.proofs.Steps.{init-generation, map-generation}
use Rattle.soundness_laws.proofs.Kept.{CanCreate, CanMake, CanGrow, CanLink, CanUnlink, CanRemove, file-leaf}
use Rattle.soundness_laws.proofs.Meant.{tables_after_rename}
use Rattle.inode_fs.proofs.Accepted.{CreateFound, WriteFound, RelinkFound, LinkFound, RenameFound, UnlinkFound}
use Rattle.inode_fs.proofs.Accepted.{MkdirFound, RmdirFound}
use Rattle.inode_fs.proofs.Searched.{Walked, walk-found, fresh-found, block-found, slot-found, named-found, place-found}
use Rattle.inode_fs.proofs.Clears.{clears-make, clears-free}

-- the disk after a list of changes has these tables
pub record Made (d : Disk) (changes : List Change) (t : Tables) : Type 0 where
  pub disk : IsDisk (with_changes d changes)
  pub tables : tables_of (with_changes d changes) ≡ t

pub along : (d : Disk) (changes by : List Change) (t : Tables) → changes ≡ by → Made d by t → Made d changes t
along d changes by t is m = subst (λ (x : List Change). Made d x t) (sym is) m

-- ---- a directory stays if the tables keep its kind and its block

own_mark : (d : Disk) (dir : ℕ) → Sound (tables_of d) → (tables_of d).kind dir ≡ 2
    → (tables_of d).mark ((tables_of d).pointer dir 0) ≡ DirectoryOf dir
own_mark d dir sound two =
    let t = tables_of d in
    sound.blocks.directory_blocks dir 0 (t.pointer dir 0) ((λ z. omega arith), refl, (sound.blocks.one_block dir two).0)
    two

pub stands : (d e : Disk) (dir : ℕ) (t : Tables) → Sound (tables_of d) → Walked d dir → tables_of e ≡ t
    → t.kind dir ≡ (tables_of d).kind dir → t.pointer dir 0 ≡ (tables_of d).pointer dir 0
    → t.mark ((tables_of d).pointer dir 0) ≡ (tables_of d).mark ((tables_of d).pointer dir 0) → Stands d e dir
stands d e dir t sound walk is kind pointer mark = record {
  below = walk.below;
  kind = ap (λ (x : Tables). x.kind dir) is ∙ kind ∙ walk.kind;
  mark = ap (λ (x : Tables). x.mark (x.pointer dir 0)) is ∙ ap t.mark pointer ∙ mark ∙ own_mark d dir sound walk.kind;
  block = ap (λ (x : Tables). x.pointer dir 0) is ∙ pointer;
}

-- no directory's block is a free one
block-apart : (t : Tables) (dir b : ℕ) → Sound t → t.kind dir ≡ 2 → t.used b ≡ false → t.pointer dir 0 ≢ b
block-apart t dir b sound two free same =
    let used = sound.blocks.named_used dir 0 (t.pointer dir 0)
    ((λ z. omega arith), refl, (sound.blocks.one_block dir two).0) in
    false≢true (sym free ∙ ap t.used (sym same) ∙ used)

no_directory : (kind : ℕ) → kind ≡ 1 → kind ≢ 2
no_directory kind one two = omega arith

-- ---- create

pub can-create : (d : Disk) (path : Path) (changes : List Change) → Sound (tables_of d) → IsName path.last
    → (f : CreateFound d path changes) → CanCreate (tables_of d) f.dir f.k f.i path.last
can-create d path changes sound is_name f =
    let walk = walk-found d path.through.items f.dir sound f.walk in
    record {
      place = place-found d f.dir f.k path.last sound is_name walk f.place f.absent;
      fresh = fresh-found d f.i 1 f.inode (omega arith, omega arith);
    }

pub create-made : (d : Disk) (path : Path) (changes : List Change) → IsDisk d → Sound (tables_of d) → IsName path.last
    → (f : CreateFound d path changes)
    → Made d changes (tables_after_create (tables_of d) f.dir f.k f.i path.last)
create-made d path changes disk sound is_name f =
    let t = tables_of d in
    let can = can-create d path changes sound is_name f in
    let walk = walk-found d path.through.items f.dir sound f.walk in
    let below = can.fresh.below in
    let one = init-makes d f.i 1 disk below (sym (kind-at d f.i below) ∙ can.fresh.free) in
    let d1 = with_changes d (inode_init d f.i 1 ∷ []) in
    let other = not-fresh t f.i 1 f.dir can.fresh (λ z. let two = walk.kind in omega arith) in
    let s = stands d d1 f.dir (with_inode t f.i 1 1) sound walk one.tables (with_value-other t.kind f.i 1 f.dir other)
    (ap (λ (row : ℕ → ℕ). row 0) (with_value-other t.pointer f.i (λ _. 0) f.dir other)) refl in
    let two = set-makes d d1 f.dir f.k f.i path.last one.disk s can.place.in_place is_name.few in
    along d changes _ _ f.are (record {
      disk = two.disk;
      tables = two.tables
          ∙ ap (λ (x : Tables). with_entry x f.dir f.k (Leads f.i (name_spelling path.last))) one.tables;
    })

-- ---- write

pub can-grow : (d : Disk) (path : Path) (changes : List Change) → IsDisk d → Sound (tables_of d)
    → (f : WriteFound d path changes) → CanGrow (tables_of d) (target_of d f.dir f.k) f.s f.b
unfolding tables_of
can-grow d path changes disk sound f =
    let walk = walk-found d path.through.items f.dir sound f.walk in
    let entry = named-found d f.dir path.last f.k walk.below f.named in
    let slot = slot-found d (target_of d f.dir f.k) f.s entry.target_below f.slot in
    let block = block-found d f.b f.block in
    record {
      file = kind-at d (target_of d f.dir f.k) entry.target_below ∙ f.file;
      slot = slot.below;
      empty = slot.empty;
      lower = slot.lower;
      free = block.free;
      low = block.low;
      high = block.high;
    }

pub write-made : (d : Disk) (path : Path) (changes : List Change) → IsDisk d → Sound (tables_of d)
    → (f : WriteFound d path changes)
    → Made d changes (tables_after_write (tables_of d) (target_of d f.dir f.k) f.s f.b)
write-made d path changes disk sound f =
    let t = tables_of d in
    let target = target_of d f.dir f.k in
    let walk = walk-found d path.through.items f.dir sound f.walk in
    let below = (named-found d f.dir path.last f.k walk.below f.named).target_below in
    let can = can-grow d path changes disk sound f in
    let block = block-found d f.b f.block in
    let one = map_set-makes d f.b disk block.high in
    let d1 = with_changes d (map_set f.b ∷ []) in
    let inside : is_data d f.b ≡ true = area d f.b (can.low, can.high) in
    let generation : generation_of d target ≡ generation_of d1 target =
    sym (map-generation d f.b target disk block.high) in
    let two = block-makes d d1 InitFile f.b 0x46 target one.disk inside below generation (λ dir in_dir kind.
    let old_kind : t.kind dir ≡ 2 = ap (λ (x : Tables). x.kind dir) (sym one.tables) ∙ kind-at d1 dir in_dir ∙ kind in
    λ same. block-apart t dir f.b sound old_kind can.free
    (ap (λ (x : Tables). x.pointer dir 0) (sym one.tables) ∙ pointer-at d1 dir 0 in_dir (omega arith) ∙ same)) in
    let d2 = with_changes d1 (init_block d InitFile f.b 0x46 target ∷ []) in
    let tables : tables_of d2 ≡ with_mark (with_used t f.b true) f.b (FileOf target) = two.tables
    ∙ ap (λ (x : Tables). with_mark x f.b (FileOf target)) one.tables in
    let kind : kind_of d2 target ≡ 1 = sym (kind-at d2 target below) ∙ ap (λ (x : Tables). x.kind target) tables
    ∙ can.file in
    let after = pointer-kind d2 target f.s f.b two.disk below can.slot in
    let three = pointer-makes d2 target f.s f.b two.disk below can.slot (λ m small.
    place-no_directory _ target m (no_directory _ (after ∙ kind))
    ∙ sym (place-no_directory d2 target m (no_directory _ kind))) in
    along d changes _ _ f.are (record {
      disk = three.disk;
      tables = three.tables
          ∙ ap (λ (x : Tables). with_pointer x target f.s f.b) tables;
    })

-- ---- link

pub can-link : (d : Disk) (old new : Path) → Sound (tables_of d) → IsName new.last → (f : RelinkFound d old new)
    → CanLink (tables_of d) f.dir f.k (target_of d f.old_dir f.old_k) new.last
can-link d old new sound is_name f =
    let old_walk = walk-found d old.through.items f.old_dir sound f.walk in
    let walk = walk-found d new.through.items f.dir sound f.new_walk in
    let entry = named-found d f.old_dir old.last f.old_k old_walk.below f.named in
    let links = links-at d (target_of d f.old_dir f.old_k) entry.target_below in
    record {
      place = place-found d f.dir f.k new.last sound is_name walk f.place f.absent;
      file = kind-at d (target_of d f.old_dir f.old_k) entry.target_below ∙ f.file;
      few = subst (λ (x : ℕ). x < 8) (sym links) f.few;
    }

-- the first two changes of `link` and of `rename`
relink-made : (d : Disk) (old new : Path) → IsDisk d → Sound (tables_of d) → IsName new.last
    → (f : RelinkFound d old new)
    → Made d (link_count LinkUp (target_of d f.old_dir f.old_k) (links_of d (target_of d f.old_dir f.old_k) + 1)
    ∷ entry_set d f.dir f.k (target_of d f.old_dir f.old_k) new.last ∷ [])
    (tables_after_link (tables_of d) f.dir f.k (target_of d f.old_dir f.old_k) new.last)
relink-made d old new disk sound is_name f =
    let t = tables_of d in
    let target = target_of d f.old_dir f.old_k in
    let old_walk = walk-found d old.through.items f.old_dir sound f.walk in
    let walk = walk-found d new.through.items f.dir sound f.new_walk in
    let below = (named-found d f.old_dir old.last f.old_k old_walk.below f.named).target_below in
    let can = can-link d old new sound is_name f in
    let one = links-makes d LinkUp target (links_of d target + 1) disk below in
    let d1 = with_changes d (link_count LinkUp target (links_of d target + 1) ∷ []) in
    let tables : tables_of d1 ≡ with_links t target (t.links target + 1) = one.tables
    ∙ ap (λ (x : ℕ). with_links t target (x + 1)) (sym (links-at d target below)) in
    let s = stands d d1 f.dir (with_links t target (t.links target + 1)) sound walk tables refl refl refl in
    let two = set-makes d d1 f.dir f.k target new.last one.disk s can.place.in_place is_name.few in
    record {
      disk = two.disk;
      tables = two.tables ∙ ap (λ (x : Tables). with_entry x f.dir f.k
          (Leads target (name_spelling new.last))) tables;
    }

pub link-made : (d : Disk) (old new : Path) (changes : List Change) → IsDisk d → Sound (tables_of d) → IsName new.last
    → (found : LinkFound d old new changes)
    → Made d changes (tables_after_link (tables_of d) found.at.dir found.at.k
    (target_of d found.at.old_dir found.at.old_k) new.last)
link-made d old new changes disk sound is_name found =
    along d changes _ _ found.are (relink-made d old new disk sound is_name found.at)

-- ---- rename

pub rename-made : (d : Disk) (old new : Path) (changes : List Change) → IsDisk d → Sound (tables_of d) → IsName new.last
    → (found : RenameFound d old new changes)
    → Made d changes (tables_after_rename (tables_of d) found.at.old_dir found.at.old_k found.at.dir found.at.k
    (target_of d found.at.old_dir found.at.old_k) new.last)
rename-made d old new changes disk sound is_name found =
    let f = found.at in
    let t = tables_of d in
    let target = target_of d f.old_dir f.old_k in
    let old_walk = walk-found d old.through.items f.old_dir sound f.walk in
    let entry = named-found d f.old_dir old.last f.old_k old_walk.below f.named in
    let two = relink-made d old new disk sound is_name f in
    let d2 = with_changes d (link_count LinkUp target (links_of d target + 1) ∷ entry_set d f.dir f.k target new.last
    ∷ []) in
    let s = stands d d2 f.old_dir (tables_after_link t f.dir f.k target new.last) sound old_walk two.tables refl refl
    refl in
    let three = clear-makes d d2 f.old_dir f.old_k two.disk s entry.below in
    let d3 = with_changes d2 (entry_clear d f.old_dir f.old_k ∷ []) in
    let four = links-makes d3 LinkDown target (links_of d target) three.disk entry.target_below in
    along d changes _ _ found.are (record {
      disk = four.disk;
      tables = four.tables
          ∙ ap (λ (x : Tables). with_links x target (links_of d target))
          (three.tables ∙ ap (λ (x : Tables). with_entry x f.old_dir f.old_k Free) two.tables)
          ∙ ap (λ (x : ℕ). with_links (with_entry (tables_after_link t f.dir f.k target new.last) f.old_dir f.old_k
          Free) target x) (sym (links-at d target entry.target_below));
    })

-- ---- unlink

-- an inode of d is freed on a later disk, with its blocks below a slot
pub record Freed (d e : Disk) (i n : ℕ) : Type 0 where
  pub used : ℕ → Bool
  pub mark : ℕ → Mark
  pub made : Made e (inode_free d i ∷ some_below n (map_clear_at d i)) (record (tables_of e) {
    kind = with_value (tables_of e).kind i 0;
    links = with_value (tables_of e).links i 0;
    pointer = with_value (tables_of e).pointer i (λ _. 0);
    used = used;
    mark = mark;
  })
  pub frees : FreesBlocks (tables_of d).kind (tables_of d).pointer (tables_of d).used used i
  pub keeps : KeepsMarks (tables_of e).mark mark i

pub free-made : (d e : Disk) (i n : ℕ) → IsDisk e → Sound (tables_of d) → i < 16 → (tables_of d).kind i ≢ 0
    → e.blocks ≡ d.blocks → (tables_of e).used ≡ (tables_of d).used
    → ((m : ℕ) → m < 10 → place_of e i m ≡ Free) → n ≤ 4
    → ((s b : ℕ) → HasPointer (tables_of d).kind (tables_of d).pointer i s b → s < n) → Freed d e i n
free-made d e i n disk sound below live size same_used empty few slots =
    let one = free-makes d e i disk below empty in
    let e1 = with_changes e (inode_free d i ∷ []) in
    let cleared = clears-make d e1 i n one.disk size in
    let same : (tables_of e1).used ≡ (tables_of d).used = ap (λ (x : Tables). x.used) one.tables ∙ same_used in
    record {
      used = cleared.used;
      mark = (tables_of e1).mark;
      made = record {
        disk = cleared.disk;
        tables = cleared.tables ∙ ap (λ (x : Tables). record x { used = cleared.used }) one.tables;
      };
      frees = clears-free d e1 (with_changes e1 (some_below n (map_clear_at d i))) i n sound live few same
          cleared slots;
      keeps = free-keeps d e i disk below;
    }

-- the last name of an inode, and its blocks below a slot
pub record Removal (d : Disk) (dir k i n : ℕ) : Type 0 where
  pub used : ℕ → Bool
  pub mark : ℕ → Mark
  pub made : Made d (entry_clear d dir k ∷ inode_free d i ∷ some_below n (map_clear_at d i))
      (tables_after_removal (tables_of d) dir k i used mark)
  pub frees : FreesBlocks (tables_of d).kind (tables_of d).pointer (tables_of d).used used i
  pub keeps : KeepsMarks (tables_of d).mark mark i

remove-made : (d : Disk) (dir k i n : ℕ) (name : List ℕ) → IsDisk d → Sound (tables_of d) → Walked d dir → k < 10
    → i < 16
    → (tables_of d).entry dir k ≡ Leads i (name_spelling name)
    → ((m j : ℕ) (sp : List ℕ) → (tables_of d).entry i m ≢ Leads j sp) → n ≤ 4
    → ((s b : ℕ) → HasPointer (tables_of d).kind (tables_of d).pointer i s b → s < n) → Removal d dir k i n
remove-made d dir k i n name disk sound walk in_place below there leaf few slots =
    let t = tables_of d in
    let s = stands d d dir t sound walk refl refl refl refl in
    let one = clear-makes d d dir k disk s in_place in
    let d1 = with_changes d (entry_clear d dir k ∷ []) in
    let live : t.kind i ≢ 0 = sound.names.no_dangling dir k i (name_spelling name) there in
    let freed = free-made d d1 i n one.disk sound below live refl (ap (λ (x : Tables). x.used) one.tables) (λ m small.
    sym (entry-at d1 i m below small) ∙ ap (λ (x : Tables). x.entry i m) one.tables
    ∙ empty (with_place t.entry dir k Free i m) (λ j sp e. leaf m j sp (left_back t.entry dir k i m j sp e).1)) few
    slots in
    record {
      used = freed.used;
      mark = freed.mark;
      made = record {
        disk = freed.made.disk;
        tables = freed.made.tables
            ∙ ap (λ (x : Tables). record x {
              kind = with_value x.kind i 0;
              links = with_value x.links i 0;
              pointer = with_value x.pointer i (λ _. 0);
              used = freed.used;
              mark = freed.mark;
            }) one.tables;
      };
      frees = freed.frees;
      keeps = subst (λ (x : Tables). KeepsMarks x.mark freed.mark i) one.tables freed.keeps;
    }
  where
    empty : (p : Place) → ((j : ℕ) (sp : List ℕ) → p ≢ Leads j sp) → p ≡ Free
    empty Free none = refl
    empty (Leads j sp) none = absurd (none j sp refl)

-- other names are left, or this was the last one
pub data Unlinked (d : Disk) (dir k i : ℕ) (name : List ℕ) (changes : List Change) : Type 0 where
  Named : (left : ℕ) → CanUnlink (tables_of d) dir k i (name_spelling name) left
      → Made d changes (tables_after_unlink (tables_of d) dir k i left) → Unlinked d dir k i name changes
  Gone : (used : ℕ → Bool) (mark : ℕ → Mark) → CanRemove (tables_of d) dir k i (name_spelling name) used mark
      → Made d changes (tables_after_removal (tables_of d) dir k i used mark) → Unlinked d dir k i name changes

pub unlink-made : (d : Disk) (path : Path) (changes : List Change) → IsDisk d → Sound (tables_of d)
    → (f : UnlinkFound d path changes) → Unlinked d f.dir f.k (target_of d f.dir f.k) path.last changes
unlink-made d path changes disk sound f =
    let t = tables_of d in
    let target = target_of d f.dir f.k in
    let walk = walk-found d path.through.items f.dir sound f.walk in
    let entry = named-found d f.dir path.last f.k walk.below f.named in
    let file : t.kind target ≡ 1 = kind-at d target entry.target_below ∙ f.file in
    let links = links-at d target entry.target_below in
    let some = sound.inodes.few_names target file in
    let one = clear-makes d d f.dir f.k disk (stands d d f.dir t sound walk refl refl refl refl) entry.below in
    let d1 = with_changes d (entry_clear d f.dir f.k ∷ []) in
    elim (cases_lt 1 (links_of d target)) [
      | inl more ↦
          let down = links-makes d1 LinkDown target (links_of d target - 1) one.disk entry.target_below in
          Named (links_of d target - 1)
          (record { there = entry.leads; file = file; some = omega arith; links = omega arith })
          (along d changes (entry_clear d f.dir f.k ∷ link_count LinkDown target (links_of d target - 1) ∷ [])
          _ (f.are ∙ rw (lt-ltb 1 (links_of d target) more) refl)
          (record {
            disk = down.disk;
            tables = down.tables ∙ ap
                (λ (x : Tables). with_links x target (links_of d target - 1)) one.tables;
          }))
      | inr last ↦
          let leaf = file-leaf t target sound file in
          let gone = remove-made d f.dir f.k target 4 path.last disk sound walk entry.below entry.target_below
          entry.leads leaf (omega arith) (λ s b h. sound.blocks.slots target s (λ z. h.2 (sym h.1 ∙ z))) in
          Gone gone.used gone.mark
          (record {
            there = entry.leads;
            leaf = leaf;
            last = omega (arith, some.0);
            frees = gone.frees;
            marks = gone.keeps;
          })
          (along d changes (entry_clear d f.dir f.k ∷ inode_free d target ∷ map_clears d target)
          _ (f.are ∙ rw (le-ltb 1 (links_of d target) last) refl) gone.made)
    ]

-- ---- rmdir

-- nothing is below a directory in which no entry was found
empty-leaf : (d : Disk) (i : ℕ) → has_entries d i ≡ false → (m j : ℕ) (sp : List ℕ)
    → (tables_of d).entry i m ≢ Leads j sp
empty-leaf d i none m j sp e =
    let b = entry-bytes d i m j sp e in
    let is = entry-is d i m j sp b in
    false≢true (sym (first_below-is_none 10 (is_entry d i) (none-found _ none) m b.in_place) ∙ is.0)

pub record Removed (d : Disk) (dir k i : ℕ) (name : List ℕ) (changes : List Change) : Type 0 where
  pub used : ℕ → Bool
  pub mark : ℕ → Mark
  pub can : CanRemove (tables_of d) dir k i (name_spelling name) used mark
  pub made : Made d changes (tables_after_removal (tables_of d) dir k i used mark)

pub rmdir-made : (d : Disk) (path : Path) (changes : List Change) → IsDisk d → Sound (tables_of d)
    → (f : RmdirFound d path changes) → Removed d f.dir f.k (target_of d f.dir f.k) path.last changes
unfolding some_below
rmdir-made d path changes disk sound f =
    let t = tables_of d in
    let target = target_of d f.dir f.k in
    let walk = walk-found d path.through.items f.dir sound f.walk in
    let entry = named-found d f.dir path.last f.k walk.below f.named in
    let directory : t.kind target ≡ 2 = kind-at d target entry.target_below ∙ f.directory in
    let leaf = empty-leaf d target f.empty in
    let gone = remove-made d f.dir f.k target 1 path.last disk sound walk entry.below entry.target_below entry.leads
    leaf (omega arith) (λ s b h. elim (cases_eq s 0) [
      | inl z ↦ omega arith
      | inr other ↦ absurd (h.2 (sym h.1 ∙ (sound.blocks.one_block target directory).1 s other))
    ]) in
    record {
      used = gone.used;
      mark = gone.mark;
      can = record {
        there = entry.leads;
        leaf = leaf;
        last = sound.inodes.one_name target directory;
        frees = gone.frees;
        marks = gone.keeps;
      };
      made = along d changes _ _ f.are gone.made;
    }

-- ---- mkdir

pub can-make : (d : Disk) (path : Path) (changes : List Change) → Sound (tables_of d) → IsName path.last
    → (f : MkdirFound d path changes) → CanMake (tables_of d) f.dir f.k f.i f.b path.last
unfolding tables_of
can-make d path changes sound is_name f =
    let walk = walk-found d path.through.items f.dir sound f.walk in
    let block = block-found d f.b f.block in
    record {
      place = place-found d f.dir f.k path.last sound is_name walk f.place f.absent;
      fresh = fresh-found d f.i 2 f.inode (omega arith, omega arith);
      free = block.free;
      low = block.low;
      high = block.high;
    }

pub mkdir-made : (d : Disk) (path : Path) (changes : List Change) → IsDisk d → Sound (tables_of d) → IsName path.last
    → (f : MkdirFound d path changes)
    → Made d changes (tables_after_mkdir (tables_of d) f.dir f.k f.i f.b path.last)
mkdir-made d path changes disk sound is_name f =
    let t = tables_of d in
    let i = f.i in
    let b = f.b in
    let can = can-make d path changes sound is_name f in
    let walk = walk-found d path.through.items f.dir sound f.walk in
    let block = block-found d b f.block in
    let below = can.fresh.below in
    let low : 4 ≤ b = omega (arith, block.low) in
    let apart = not-fresh t i 2 in
    let other : f.dir ≢ i = apart f.dir can.fresh (λ z. let two = walk.kind in omega arith) in
    let one = init-makes d i 2 disk below (sym (kind-at d i below) ∙ can.fresh.free) in
    let t1 = with_inode t i 2 1 in
    let d1 = with_changes d (inode_init d i 2 ∷ []) in
    let two = map_set-makes d1 b one.disk block.high in
    let t2 = with_used t1 b true in
    let d2 = with_changes d1 (map_set b ∷ []) in
    let tables2 : tables_of d2 ≡ t2 = two.tables ∙ ap (λ (x : Tables). with_used x b true) one.tables in
    let inside : is_data d b ≡ true = area d b (can.low, can.high) in
    let own_none : t2.pointer i 0 ≡ 0 = ap (λ (row : ℕ → ℕ). row 0) (with_value-same t.pointer i (λ _. 0)) in
    let generation : generation_of d i ≡ generation_of d2 i = sym (map-generation d1 b i one.disk block.high
    ∙ init-generation d i 2 disk below) in
    let three = block-makes d d2 InitDir b 0x44 i two.disk inside below generation (λ dir in_dir kind same.
    let pointer : t2.pointer dir 0 ≡ b = ap (λ (x : Tables). x.pointer dir 0) (sym tables2)
    ∙ pointer-at d2 dir 0 in_dir (omega arith) ∙ same in
    elim (cases_eq dir i) [
      | inl e ↦ let none : b ≡ 0 = sym pointer ∙ ap (λ (x : ℕ). t2.pointer x 0) e ∙ own_none in omega arith
      | inr n ↦ block-apart t dir b sound
          (sym (with_value-other t.kind i 2 dir n) ∙ ap (λ (x : Tables). x.kind dir) (sym tables2)
          ∙ kind-at d2 dir in_dir ∙ kind)
          can.free
          (ap (λ (row : ℕ → ℕ). row 0) (sym (with_value-other t.pointer i (λ _. 0) dir n)) ∙ pointer)
    ]) in
    let t3 = with_mark t2 b (DirectoryOf i) in
    let d3 = with_changes d2 (init_block d InitDir b 0x44 i ∷ []) in
    let tables3 : tables_of d3 ≡ t3 = three.tables ∙ ap (λ (x : Tables). with_mark x b (DirectoryOf i)) tables2 in
    let no_block : pointer_of d3 i 0 ≡ 0 = sym (pointer-at d3 i 0 below (omega arith))
    ∙ ap (λ (x : Tables). x.pointer i 0) tables3 ∙ own_none in
    let four = pointer-makes d3 i 0 b three.disk below (omega arith) (λ m small.
    empty-place d d2 InitDir i b 0x44 two.disk below low block.high m small ∙ sym (place-no_block d3 i m no_block)) in
    let t4 = with_pointer t3 i 0 b in
    let d4 = with_changes d3 (pointer_set i 0 b ∷ []) in
    let tables4 : tables_of d4 ≡ t4 = four.tables ∙ ap (λ (x : Tables). with_pointer x i 0 b) tables3 in
    let pointer : t4.pointer f.dir 0 ≡ t.pointer f.dir 0 =
    ap (λ (row : ℕ → ℕ). row 0) (with_value-other t3.pointer i (with_value (t3.pointer i) 0 b) f.dir other
    ∙ with_value-other t.pointer i (λ _. 0) f.dir other) in
    let mark : t4.mark (t.pointer f.dir 0) ≡ t.mark (t.pointer f.dir 0) =
    with_value-other t.mark b (DirectoryOf i) (t.pointer f.dir 0) (block-apart t f.dir b sound walk.kind can.free) in
    let s = stands d d4 f.dir t4 sound walk tables4 (with_value-other t.kind i 2 f.dir other) pointer mark in
    let five = set-makes d d4 f.dir f.k i path.last four.disk s can.place.in_place is_name.few in
    along d changes _ _ f.are (record {
      disk = five.disk;
      tables = five.tables
          ∙ ap (λ (x : Tables). with_entry x f.dir f.k (Leads i (name_spelling path.last))) tables4;
    })
