-- The tables of a sound disk after `overwrite`, `truncate` and `replace`.
use Rattle.std.proofs.Common.{◌≡◌, ◌≢◌, ℕ, zero, suc, ◌+◌, ◌-◌, ◌<◌, inl, inr, List, [], ◌∷◌, ◌++◌, Bool, true}
use Rattle.std.proofs.Common.{false, Option, Some, None, arith, refl, sym, ◌∙◌, ap, subst}
use Rattle.std.specs.Prelude.{option_to_list}
use mathlib.Core.Path.{fun_ext}
use Rattle.std.proofs.lemmas.Bool.{cases_eq, cases_lt, lt-ltb, le-ltb, eq-eqb, ne_eqb}
use Rattle.crash_model.specs.Disk.{Disk, IsDisk}
use Rattle.crash_model.specs.Names.{IsName}
use Rattle.crash_model.specs.Lists.{some_below, when}
use Rattle.crash_model.specs.Layout.{kind_of, links_of, pointer_of, is_data, target_of}
use Rattle.crash_model.specs.Slots.{slot_number}
use Rattle.crash_model.specs.Plan.{name_spelling, inode_free, map_clears, map_clear_at, entry_set, entry_clear}
use Rattle.crash_model.specs.Plan.{link_count, new_data, new_data_at, new_data_in, touch, pointers_clear}
use Rattle.crash_model.specs.Plan.{with_changes}
use Rattle.crash_model.specs.declared.names.Path.{Path}
use Rattle.crash_model.specs.declared.operations.Slot.{Slot}
use Rattle.crash_model.specs.declared.plans.Change.{Change}
use Rattle.crash_model.specs.declared.plans.Role.TheVariants.{LinkUp, LinkDown}
use Rattle.soundness_laws.specs.Tables.{Tables, Place, Mark, tables_of, with_value, with_links, with_entry}
use Rattle.soundness_laws.specs.Tables.{with_place, tables_after_link, tables_after_unlink, tables_after_removal}
use Rattle.soundness_laws.specs.Tables.{tables_after_truncate, KeepsMarks, Sound}
use Rattle.soundness_laws.specs.Tables.Place.{Free, Leads}
use Rattle.soundness_laws.proofs.Sums.{with_value-same, with_value-other, changed_twice-same, changed_twice-other}
use Rattle.soundness_laws.proofs.Names.{left_back}
use Rattle.soundness_laws.proofs.Puts.{same_tables}
use Rattle.soundness_laws.proofs.OnTables.{place-no_directory}
use Rattle.soundness_laws.proofs.ByTables.{kind-at}
use Rattle.soundness_laws.proofs.Views.{links-at}
use Rattle.soundness_laws.proofs.Steps.{links-makes, set-makes, clear-makes, touch-makes, data-makes}
use Rattle.soundness_laws.proofs.Steps.{clear_pointers-makes}
use Rattle.soundness_laws.proofs.Kept.{CanLink, CanUnlink, CanRemove, CanCut, file-leaf}
use Rattle.soundness_laws.proofs.Meant.{tables_after_rename, with_value-back}
use Rattle.inode_fs.proofs.Accepted.{OverwriteFound, TruncateFound, ReplaceFound}
use Rattle.inode_fs.proofs.Searched.{walk-found, named-found}
use Rattle.inode_fs.proofs.Lands.{with_changes-size}
use Rattle.inode_fs.proofs.Clears.{with_changes-append, clears-make, clears-free}
use Rattle.inode_fs.proofs.Changed.{Made, along, stands, free-made}

-- ---- overwrite

data-made : (d e : Disk) (i s : ℕ) → IsDisk e → e.blocks ≡ d.blocks → e.journal ≡ d.journal
    → Made e (option_to_list (new_data_at d i s)) (tables_of e)
data-made d e i s disk blocks journal = go (is_data d (pointer_of d i s)) refl
  where
    go : (test : Bool) → is_data d (pointer_of d i s) ≡ test
        → Made e (option_to_list (when test (new_data d (pointer_of d i s)))) (tables_of e)
    go false outside = record { disk = disk; tables = refl }
    go true inside =
        let area : is_data e (pointer_of d i s) ≡ true = rw (blocks, journal) inside in
        let m = data-makes d e (pointer_of d i s) disk area in
        record { disk = m.disk; tables = m.tables }

both-made : (e : Disk) (cs es : List Change) → Made e cs (tables_of e)
    → Made (with_changes e cs) es (tables_of (with_changes e cs)) → Made e (cs ++ es) (tables_of e)
both-made e cs es first second =
    let same = with_changes-append e cs es in
    record {
      disk = subst IsDisk (sym same) second.disk;
      tables = ap tables_of same ∙ second.tables ∙ first.tables;
    }

datas-made : (d e : Disk) (i n : ℕ) → IsDisk e → e.blocks ≡ d.blocks → e.journal ≡ d.journal
    → Made e (some_below n (new_data_at d i)) (tables_of e)
unfolding some_below
datas-made d e i zero disk blocks journal = record { disk = disk; tables = refl }
datas-made d e i (suc n) disk blocks journal =
    let before = datas-made d e i n disk blocks journal in
    let size = with_changes-size e (some_below n (new_data_at d i)) in
    both-made e (some_below n (new_data_at d i)) (option_to_list (new_data_at d i n)) before
    (data-made d (with_changes e (some_below n (new_data_at d i))) i n before.disk (size.0 ∙ blocks) (size.1 ∙ journal))

slots-made : (d : Disk) (i : ℕ) (slot : Option Slot) → IsDisk d → Made d (new_data_in d i slot) (tables_of d)
slots-made d i None disk = datas-made d d i 4 disk refl refl
slots-made d i (Some slot) disk = data-made d d i (slot_number slot) disk refl refl

pub overwrite-made : (d : Disk) (path : Path) (slot : Option Slot) (changes : List Change) → IsDisk d
    → Sound (tables_of d) → OverwriteFound d path slot changes → Made d changes (tables_of d)
overwrite-made d path slot changes disk sound f =
    let target = target_of d f.dir f.k in
    let walk = walk-found d path.through.items f.dir sound f.walk in
    let below = (named-found d f.dir path.last f.k walk.below f.named).target_below in
    let written = slots-made d target slot disk in
    let last = touch-makes d (with_changes d (new_data_in d target slot)) target written.disk below in
    along d changes _ _ f.are (both-made d (new_data_in d target slot) (touch d target ∷ []) written
    (record { disk = last.disk; tables = last.tables }))

-- ---- truncate

pub record Truncated (d : Disk) (i : ℕ) (changes : List Change) : Type 0 where
  pub used : ℕ → Bool
  pub can : CanCut (tables_of d) i used
  pub made : Made d changes (tables_after_truncate (tables_of d) i used)

pub truncate-made : (d : Disk) (path : Path) (changes : List Change) → IsDisk d → Sound (tables_of d)
    → (f : TruncateFound d path changes) → Truncated d (target_of d f.dir f.k) changes
truncate-made d path changes disk sound f =
    let t = tables_of d in
    let i = target_of d f.dir f.k in
    let walk = walk-found d path.through.items f.dir sound f.walk in
    let below = (named-found d f.dir path.last f.k walk.below f.named).target_below in
    let file : t.kind i ≡ 1 = kind-at d i below ∙ f.file in
    let is_file = f.file in
    let one = clear_pointers-makes d i disk below (λ two. omega arith) in
    let d1 = with_changes d (pointers_clear i ∷ []) in
    let cleared = clears-make d d1 i 4 one.disk refl in
    let same : (tables_of d1).used ≡ t.used = ap (λ (x : Tables). x.used) one.tables in
    record {
      used = cleared.used;
      can = record {
        file = file;
        frees = clears-free d d1 (with_changes d1 (some_below 4 (map_clear_at d i))) i 4 sound (λ z. omega arith)
            (omega arith) same cleared (λ s b h. sound.blocks.slots i s (λ z. h.2 (sym h.1 ∙ z)));
      };
      made = along d changes (pointers_clear i ∷ map_clears d i) _ f.are (record {
        disk = cleared.disk;
        tables = cleared.tables ∙ ap (λ (x : Tables). record x { used = cleared.used }) one.tables;
      });
    }

-- ---- replace: the same tables as after an unlink of the new name and then a rename

with_value-twice : {X : Type 0} (f : ℕ → X) (i : ℕ) (v w : X) → with_value (with_value f i v) i w ≡ with_value f i w
with_value-twice f i v w = fun_ext (λ j. elim (cases_eq j i) [
  | inl e ↦ rw (eq-eqb j i e) refl
  | inr n ↦ rw (ne_eqb j i n) refl
])

with_place-twice : (entry : ℕ → ℕ → Place) (dir k : ℕ) (p q : Place)
    → with_place (with_place entry dir k p) dir k q ≡ with_place entry dir k q
with_place-twice entry dir k p q =
    let row = with_value (entry dir) k p in
    ap (λ (r : ℕ → Place). with_value (with_value entry dir row) dir (with_value r k q)) (with_value-same entry dir row)
    ∙ with_value-twice entry dir row (with_value row k q)
    ∙ ap (λ (r : ℕ → Place). with_value entry dir r) (with_value-twice (entry dir) k p q)

-- what both ways leave: other link counts and other entries
same-replaced : (t : Tables) (old_dir old_k dir k target : ℕ) (name : List ℕ) (s : Tables) (other v : ℕ)
    → s.entry ≡ with_place t.entry dir k Free → s.links ≡ with_value t.links other v
    → record s {
      links = with_value (tables_after_rename t old_dir old_k dir k target name).links other v;
      entry = (tables_after_rename t old_dir old_k dir k target name).entry;
    } ≡ tables_after_rename s old_dir old_k dir k target name
same-replaced t old_dir old_k dir k target name s other v entry links =
    let place = Leads target (name_spelling name) in
    same_tables s.blocks s.journal _ _ _ _ _ _ _ _ _ _ _ _
    refl
    (ap (λ (f : ℕ → ℕ). with_value f other v) (with_value-back t.links target (t.links target + 1)) ∙ sym links
    ∙ sym (with_value-back s.links target (s.links target + 1)))
    refl refl refl
    (ap (λ (f : ℕ → ℕ → Place). with_place f old_dir old_k Free) (sym (with_place-twice t.entry dir k Free place)
    ∙ ap (λ (f : ℕ → ℕ → Place). with_place f dir k place) (sym entry)))

-- the new name is given after the other file has lost it
pub record CanReplace (s : Tables) (old_dir old_k dir k target : ℕ) (old_name name : List ℕ) : Type 0 where
  pub link : CanLink s dir k target name
  pub there : s.entry old_dir old_k ≡ Leads target (name_spelling old_name)

-- the other file has further names, or has none
pub data Replaced (d : Disk) (old_dir old_k dir k target other : ℕ) (old_name name : List ℕ)
    (changes : List Change) : Type 0 where
  Remains : (left : ℕ) → CanUnlink (tables_of d) dir k other (name_spelling name) left
      → CanReplace (tables_after_unlink (tables_of d) dir k other left) old_dir old_k dir k target old_name name
      → Made d changes (tables_after_rename (tables_after_unlink (tables_of d) dir k other left) old_dir old_k dir k
      target name)
      → Replaced d old_dir old_k dir k target other old_name name changes
  Vanishes : (used : ℕ → Bool) (mark : ℕ → Mark) → CanRemove (tables_of d) dir k other (name_spelling name) used mark
      → CanReplace (tables_after_removal (tables_of d) dir k other used mark) old_dir old_k dir k target old_name name
      → Made d changes (tables_after_rename (tables_after_removal (tables_of d) dir k other used mark) old_dir old_k dir
      k target name)
      → Replaced d old_dir old_k dir k target other old_name name changes

-- the place is free, and no other has the name
can-replace : (t s : Tables) (old_dir old_k dir k target other : ℕ) (old_name name : List ℕ) → Sound t → k < 10
    → IsName name → t.kind dir ≡ 2 → t.entry dir k ≡ Leads other (name_spelling name)
    → t.entry old_dir old_k ≡ Leads target (name_spelling old_name) → target ≢ other → s.kind dir ≡ t.kind dir
    → s.kind target ≡ 1 → s.links target ≡ t.links target → t.links target < 8
    → s.entry ≡ with_place t.entry dir k Free → CanReplace s old_dir old_k dir k target old_name name
can-replace t s old_dir old_k dir k target other old_name name sound in_place is_name two there old_there
    apart kind file
    links few entry =
    let row : (h m : ℕ) → s.entry h m ≡ with_place t.entry dir k Free h m =
    λ h m. ap (λ (f : ℕ → ℕ → Place). f h m) entry in
    record {
      link = record {
        place = record {
          free = row dir k ∙ changed_twice-same t.entry dir k Free;
          in_place = in_place;
          parent = kind ∙ two;
          is_name = is_name;
          absent = λ m j e.
              let old = left_back t.entry dir k dir m j (name_spelling name) (sym (row dir m) ∙ e) in
              old.0 refl (sound.names.distinct dir m k j other (name_spelling name) old.1 there);
        };
        file = file;
        few = subst (λ (x : ℕ). x < 8) (sym links) few;
      };
      there = row old_dir old_k ∙ changed_twice-other t.entry dir k Free old_dir old_k (λ same_dir same_place.
          let both : Leads target (name_spelling old_name) ≡ Leads other (name_spelling name) =
          sym old_there ∙ ap (λ (x : ℕ). t.entry x old_k) same_dir ∙ ap (t.entry dir) same_place ∙ there in
          let same : target ≡ other = cc in
          apart same) ∙ old_there;
    }

-- the first four changes, which are those of `rename`
first-made : (d : Disk) (old new : Path) (changes : List Change) → IsDisk d → Sound (tables_of d) → IsName new.last
    → (f : ReplaceFound d old new changes) → (let target = target_of d f.old_dir f.old_k in
    Made d (link_count LinkUp target (links_of d target + 1) ∷ entry_set d f.dir f.k target new.last
    ∷ entry_clear d f.old_dir f.old_k ∷ link_count LinkDown target (links_of d target) ∷ [])
    (tables_after_rename (tables_of d) f.old_dir f.old_k f.dir f.k target new.last))
first-made d old new changes disk sound is_name f =
    let t = tables_of d in
    let target = target_of d f.old_dir f.old_k in
    let old_walk = walk-found d old.through.items f.old_dir sound f.walk in
    let walk = walk-found d new.through.items f.dir sound f.new_walk in
    let entry = named-found d f.old_dir old.last f.old_k old_walk.below f.named in
    let place = named-found d f.dir new.last f.k walk.below f.new_named in
    let below = entry.target_below in
    let one = links-makes d LinkUp target (links_of d target + 1) disk below in
    let d1 = with_changes d (link_count LinkUp target (links_of d target + 1) ∷ []) in
    let tables1 : tables_of d1 ≡ with_links t target (t.links target + 1) = one.tables
    ∙ ap (λ (x : ℕ). with_links t target (x + 1)) (sym (links-at d target below)) in
    let s1 = stands d d1 f.dir (with_links t target (t.links target + 1)) sound walk tables1 refl refl refl in
    let two = set-makes d d1 f.dir f.k target new.last one.disk s1 place.below is_name.few in
    let d2 = with_changes d1 (entry_set d f.dir f.k target new.last ∷ []) in
    let tables2 : tables_of d2 ≡ tables_after_link t f.dir f.k target new.last = two.tables
    ∙ ap (λ (x : Tables). with_entry x f.dir f.k (Leads target (name_spelling new.last))) tables1 in
    let s2 = stands d d2 f.old_dir (tables_after_link t f.dir f.k target new.last) sound old_walk tables2 refl refl
    refl in
    let three = clear-makes d d2 f.old_dir f.old_k two.disk s2 entry.below in
    let d3 = with_changes d2 (entry_clear d f.old_dir f.old_k ∷ []) in
    let four = links-makes d3 LinkDown target (links_of d target) three.disk below in
    record {
      disk = four.disk;
      tables = four.tables
          ∙ ap (λ (x : Tables). with_links x target (links_of d target))
          (three.tables ∙ ap (λ (x : Tables). with_entry x f.old_dir f.old_k Free) tables2)
          ∙ ap (λ (x : ℕ). with_links (with_entry (tables_after_link t f.dir f.k target new.last) f.old_dir f.old_k
          Free) target x) (sym (links-at d target below));
    }

pub replace-made : (d : Disk) (old new : Path) (changes : List Change) → IsDisk d → Sound (tables_of d)
    → IsName new.last → (f : ReplaceFound d old new changes)
    → Replaced d f.old_dir f.old_k f.dir f.k (target_of d f.old_dir f.old_k) (target_of d f.dir f.k) old.last new.last
    changes
replace-made d old new changes disk sound is_name f =
    let t = tables_of d in
    let target = target_of d f.old_dir f.old_k in
    let other = target_of d f.dir f.k in
    let first = first-made d old new changes disk sound is_name f in
    let r = tables_after_rename t f.old_dir f.old_k f.dir f.k target new.last in
    let d4 = with_changes d (link_count LinkUp target (links_of d target + 1)
    ∷ entry_set d f.dir f.k target new.last ∷ entry_clear d f.old_dir f.old_k
    ∷ link_count LinkDown target (links_of d target) ∷ []) in
    let old_walk = walk-found d old.through.items f.old_dir sound f.walk in
    let walk = walk-found d new.through.items f.dir sound f.new_walk in
    let entry = named-found d f.old_dir old.last f.old_k old_walk.below f.named in
    let place = named-found d f.dir new.last f.k walk.below f.new_named in
    let file : t.kind target ≡ 1 = kind-at d target entry.target_below ∙ f.file in
    let other_file : t.kind other ≡ 1 = kind-at d other place.target_below ∙ f.other_file in
    let links = links-at d other place.target_below in
    let some = sound.inodes.few_names other other_file in
    let two = walk.kind in
    let dir_apart : f.dir ≢ other = λ same. let at : t.kind f.dir ≡ t.kind other = ap t.kind same in omega arith in
    let few : t.links target < 8 = subst (λ (x : ℕ). x < 8) (sym (links-at d target entry.target_below)) f.few in
    elim (cases_lt 1 (links_of d other)) [
      | inl more ↦
          let left = links_of d other - 1 in
          let s = tables_after_unlink t f.dir f.k other left in
          let down = links-makes d4 LinkDown other left first.disk place.target_below in
          Remains left
          (record { there = place.leads; file = other_file; some = omega arith; links = omega arith })
          (can-replace t s f.old_dir f.old_k f.dir f.k target other old.last new.last sound place.below
          is_name walk.kind
          place.leads entry.leads f.apart refl file (with_value-other t.links other left target f.apart) few refl)
          (along d changes (link_count LinkUp target (links_of d target + 1) ∷ entry_set d f.dir f.k target new.last
          ∷ entry_clear d f.old_dir f.old_k ∷ link_count LinkDown target (links_of d target)
          ∷ link_count LinkDown other left ∷ []) _ (f.are ∙ rw (lt-ltb 1 (links_of d other) more) refl) (record {
            disk = down.disk;
            tables = down.tables ∙ ap (λ (x : Tables). with_links x other left) first.tables
                ∙ same-replaced t f.old_dir f.old_k f.dir f.k target new.last s other left refl refl;
          }))
      | inr last ↦
          let kind4 : kind_of d4 other ≡ 1 = sym (kind-at d4 other place.target_below)
          ∙ ap (λ (x : Tables). x.kind other) first.tables ∙ other_file in
          let leaf = file-leaf t other sound other_file in
          let live : t.kind other ≢ 0 = λ z. omega arith in
          let freed = free-made d d4 other 4 first.disk sound place.target_below live refl
          (ap (λ (x : Tables). x.used) first.tables)
          (λ m small. place-no_directory d4 other m (λ z. omega arith)) (omega arith)
          (λ s b h. sound.blocks.slots other s (λ z. h.2 (sym h.1 ∙ z))) in
          let keeps : KeepsMarks t.mark freed.mark other =
          subst (λ (x : Tables). KeepsMarks x.mark freed.mark other) first.tables freed.keeps in
          let s = tables_after_removal t f.dir f.k other freed.used freed.mark in
          Vanishes freed.used freed.mark
          (record {
            there = place.leads;
            leaf = leaf;
            last = omega (arith, some.0);
            frees = freed.frees;
            marks = keeps;
          })
          (can-replace t s f.old_dir f.old_k f.dir f.k target other old.last new.last sound place.below
          is_name walk.kind
          place.leads entry.leads f.apart (with_value-other t.kind other 0 f.dir dir_apart)
          (with_value-other t.kind other 0 target f.apart ∙ file)
          (with_value-other t.links other 0 target f.apart) few refl)
          (along d changes (link_count LinkUp target (links_of d target + 1) ∷ entry_set d f.dir f.k target new.last
          ∷ entry_clear d f.old_dir f.old_k ∷ link_count LinkDown target (links_of d target)
          ∷ inode_free d other ∷ map_clears d other) _ (f.are ∙ rw (le-ltb 1 (links_of d other) last) refl) (record {
            disk = freed.made.disk;
            tables = freed.made.tables
                ∙ ap (λ (x : Tables). record x {
                  kind = with_value x.kind other 0;
                  links = with_value x.links other 0;
                  pointer = with_value x.pointer other (λ _. 0);
                  used = freed.used;
                  mark = freed.mark;
                }) first.tables
                ∙ same-replaced t f.old_dir f.old_k f.dir f.k target new.last s other 0 refl refl;
          }))
    ]
