-- What each change of a plan does to a disk: its tables change at one number.
use Rattle.std.proofs.Common.{◌≡◌, ◌≢◌, ℕ, ◌+◌, ◌*◌, ◌/◌, ◌%◌, ◌<◌, ◌≤◌, inl, inr, List, [], ◌∷◌, Bool, true, false}
use Rattle.std.proofs.Common.{not, eqb, length, get_or, replicate, arith, refl, sym, ◌∙◌, ap, subst, cond}
use mathlib.Core.Path.{fun_ext}
use Rattle.std.proofs.lemmas.Bool.{cases_eq, cases_order, eq-eqb, ne_eqb, lt-ltb}
use Rattle.std.proofs.lemmas.Grind.{elements}
use Rattle.crash_model.specs.Disk.{Disk, IsDisk, byte, overwrite}
use Rattle.crash_model.specs.Layout.{kind_of, links_of, pointer_of, map_of, is_data, counts, entry_of, entry_offset}
use Rattle.crash_model.specs.Generations.{generation_of, mark_generation, next_generation}
use Rattle.crash_model.specs.Plan.{inode_init, inode_free, link_count, pointer_set, map_set, map_clear, init_block}
use Rattle.crash_model.specs.Plan.{new_data, entry_set, entry_clear, name_spelling, with_changes, touch}
use Rattle.crash_model.specs.Plan.{touched_of, pointers_clear}
use Rattle.crash_model.specs.declared.plans.Change.{Change}
use Rattle.crash_model.specs.declared.plans.Role.{Role}
use Rattle.soundness_laws.specs.Tables.{Tables, tables_of, place_at, place_of, mark_at, within, with_value, with_inode}
use Rattle.soundness_laws.specs.Tables.{with_links, with_pointer, with_used, with_mark, with_entry, is_current}
use Rattle.soundness_laws.specs.Tables.{KeepsMarks}
use Rattle.soundness_laws.specs.Tables.Place.{Free, Leads}
use Rattle.soundness_laws.specs.Tables.Mark.{DirectoryOf}
use Rattle.soundness_laws.proofs.Puts.{with_bytes_at, SameBlock, same-block, byte-outside, place-same, mark-same}
use Rattle.soundness_laws.proofs.Puts.{data-block, within-with_value, within-same, with_value-kept, same_tables}
use Rattle.soundness_laws.proofs.Puts.{tables-inode, marks-inode, marks-kept, generation-same}
use Rattle.soundness_laws.proofs.OnTables.{byte-inside, behind_three, place-no_directory, counts-parts}
use Rattle.soundness_laws.proofs.OnTables.{tables-inode_init}
use Rattle.soundness_laws.proofs.OnTables.{tables-inode_free, tables-map, tables-entry_set, tables-entry_clear}
use Rattle.soundness_laws.proofs.OnTables.{tables-pointers_clear, tables-touched, tables-data, generation-written}
use Rattle.soundness_laws.proofs.ByTables.{kind-at, pointer-at, counts-by_tables, disk-with_bytes_at}

-- a change makes a disk with these tables
pub record Makes (d : Disk) (c : Change) (t : Tables) : Type 0 where
  pub disk : IsDisk (with_changes d (c ∷ []))
  pub tables : tables_of (with_changes d (c ∷ [])) ≡ t

-- ---- inodes

inode-disk : (d : Disk) (i from : ℕ) (new : List ℕ) → IsDisk d → i < 16 → from + length new ≤ 16
    → IsDisk (with_bytes_at d (128 * (2 + i / 8) + (16 * (i % 8) + from)) new)
inode-disk d i from new disk below fits = disk-with_bytes_at d (128 * (2 + i / 8) + (16 * (i % 8) + from)) new disk
    (omega (arith, disk.whole, disk.least))

pub init-makes : (d : Disk) (i kind : ℕ) → IsDisk d → i < 16 → kind_of d i ≡ 0
    → Makes d (inode_init d i kind) (with_inode (tables_of d) i kind 1)
init-makes d i kind disk below free = record {
  disk = inode-disk d i 0 (kind ∷ 1 ∷ generation_of d i ∷ replicate 13 0) disk below
      (omega arith);
  tables = tables-inode_init d i kind disk below free;
}

-- the generation that is written is that of any disk
pub free-makes : (d' d : Disk) (i : ℕ) → IsDisk d → i < 16 → ((m : ℕ) → m < 10 → place_of d i m ≡ Free)
    → Makes d (inode_free d' i) (record (tables_of d) {
      kind = with_value (tables_of d).kind i 0;
      links = with_value (tables_of d).links i 0;
      pointer = with_value (tables_of d).pointer i (λ _. 0);
      mark = (tables_of (with_changes d (inode_free d' i ∷ []))).mark;
    })
free-makes d' d i disk below empty = record {
  disk = inode-disk d i 0 (0 ∷ 0 ∷ next_generation d' i ∷ replicate 13 0) disk below (omega arith);
  tables = tables-inode_free d' d i disk below empty;
}

pub free-keeps : (d' d : Disk) (i : ℕ) → IsDisk d → i < 16
    → KeepsMarks (tables_of d).mark (tables_of (with_changes d (inode_free d' i ∷ []))).mark i
free-keeps d' d i disk below =
    let new = 0 ∷ 0 ∷ next_generation d' i ∷ replicate 13 0 in
    let spot : 128 * (2 + i / 8) + (16 * (i % 8) + 0) ≡ 256 + 16 * i + 0 = omega arith in
    subst (λ (at : ℕ). KeepsMarks (tables_of d).mark (tables_of (with_bytes_at d at new)).mark i) (sym spot)
    (marks-kept d i 0 new disk below (omega arith))

-- a new inode has the generation that it had, and a byte of the map changes none
pub init-generation : (d : Disk) (i kind : ℕ) → IsDisk d → i < 16
    → generation_of (with_changes d (inode_init d i kind ∷ [])) i ≡ generation_of d i
init-generation d i kind disk below =
    let new = kind ∷ 1 ∷ generation_of d i ∷ replicate 13 0 in
    let spot : 128 * (2 + i / 8) + (16 * (i % 8) + 0) ≡ 256 + 16 * i + 0 = omega arith in
    let inside : 256 + 16 * i + 0 + length new ≤ length d.bytes = omega (arith, disk.whole, disk.least) in
    ap (λ (at : ℕ). generation_of (with_bytes_at d at new) i) spot
    ∙ generation-written d i new (byte-inside d.bytes (256 + 16 * i + 0) new 2 (258 + 16 * i) inside (omega arith)
    (omega arith))

pub map-generation : (d : Disk) (b i : ℕ) → IsDisk d → b < d.blocks
    → generation_of (with_changes d (map_set b ∷ [])) i ≡ generation_of d i
map-generation d b i disk below = generation-same d (overwrite d.bytes (128 * 1 + b) (1 ∷ [])) i
    (byte-outside d.bytes (128 * 1 + b) (1 ∷ []) (258 + 16 * i) (omega (arith, disk.whole, disk.most))
    (inr (omega (arith, disk.most))))

pub clear_pointers-makes : (d : Disk) (i : ℕ) → IsDisk d → i < 16 → kind_of d i ≢ 2
    → Makes d (pointers_clear i) (record (tables_of d) { pointer = with_value (tables_of d).pointer i (λ _. 0) })
clear_pointers-makes d i disk below file =
    let spot : 128 * (2 + i / 8) + (16 * (i % 8) + 4) ≡ 256 + 16 * i + 4 = omega arith in
    record {
      disk = inode-disk d i 4 (replicate 4 0) disk below (omega arith);
      tables = ap (λ (x : ℕ). tables_of (with_bytes_at d x (replicate 4 0))) spot
          ∙ tables-pointers_clear d i disk below file;
    }

-- the byte that is written is of any disk
pub touch-makes : (d e : Disk) (i : ℕ) → IsDisk e → i < 16 → Makes e (touch d i) (tables_of e)
touch-makes d e i disk below =
    let spot : 128 * (2 + i / 8) + (16 * (i % 8) + 8) ≡ 256 + 16 * i + 8 = omega arith in
    let new = (touched_of d i + 1) % 256 ∷ [] in
    record {
      disk = inode-disk e i 8 new disk below (omega arith);
      tables = ap (λ (x : ℕ). tables_of (with_bytes_at e x new)) spot
          ∙ tables-touched e i ((touched_of d i + 1) % 256) disk below;
    }

pub data-makes : (d e : Disk) (b : ℕ) → IsDisk e → is_data e b ≡ true → Makes e (new_data d b) (tables_of e)
data-makes d e b disk area =
    let new = (byte d b 3 + 1) % 256 ∷ [] in
    let own = data-block e b area in
    record {
      disk = disk-with_bytes_at e (128 * b + 3) new disk (omega (arith, own.1, disk.whole));
      tables = tables-data e b ((byte d b 3 + 1) % 256) disk area;
    }

pub links-makes : (d : Disk) (role : Role) (i links : ℕ) → IsDisk d → i < 16
    → Makes d (link_count role i links) (with_links (tables_of d) i links)
unfolding tables_of
links-makes d role i links disk below =
    let t = tables_of d in
    let at = 256 + 16 * i + 1 in
    let e = with_bytes_at d at (links ∷ []) in
    let inside : at + 1 ≤ length d.bytes = omega (arith, disk.whole, disk.least) in
    let spot : 128 * (2 + i / 8) + (16 * (i % 8) + 1) ≡ at = omega arith in
    let kind : kind_of e i ≡ kind_of d i = byte-outside d.bytes at (links ∷ []) (256 + 16 * i) inside
    (inl (omega arith)) in
    let generation : generation_of e i ≡ generation_of d i = generation-same d e.bytes i
    (byte-outside d.bytes at (links ∷ []) (258 + 16 * i) inside (inr (omega arith))) in
    let own_links : links_of e i ≡ links = byte-inside d.bytes at (links ∷ []) 0 (257 + 16 * i) inside (omega arith)
    (omega arith) in
    let pointer : (s : ℕ) → s < 4 → pointer_of e i s ≡ pointer_of d i s =
    λ s small. byte-outside d.bytes at (links ∷ []) (260 + 16 * i + s) inside (inr (omega arith)) in
    let own : (m : ℕ) → m < 10 → place_of e i m ≡ place_of d i m = λ m small.
    place-same d e.bytes i m small kind (pointer 0 (omega arith))
    generation (λ h. same-block d at (links ∷ []) (pointer_of d i 0) inside
    (inr (let p = data-block d (pointer_of d i 0) h in omega arith))) in
    record {
      disk = inode-disk d i 1 (links ∷ []) disk below (omega arith);
      tables = ap (λ (x : ℕ). tables_of (with_bytes_at d x (links ∷ []))) spot
          ∙ tables-inode d i 1 (links ∷ []) disk below (omega arith) own
          ∙ same_tables t.blocks t.journal _ _ _ _ _ _ _ _ _ _ _ _
          (with_value-kept t.kind i (kind_of e i) (kind ∙ sym (kind-at d i below)))
          (ap (with_value t.links i) own_links)
          (with_value-kept t.pointer i (within 0 4 (pointer_of e i))
          (within-same 0 4 (pointer_of d i) (pointer_of e i) pointer ∙ sym (row d i below)))
          refl (marks-inode d i 1 (links ∷ []) disk below (omega arith) generation) refl;
    }
  where
    row : (d : Disk) (i : ℕ) → i < 16 → within (λ _. 0) 16 (λ j. within 0 4 (pointer_of d j)) i
        ≡ within 0 4 (pointer_of d i)
    row d i below = rw (lt-ltb i 16 below) refl

-- a slot is set, and no entry comes with the block
pub pointer-makes : (d : Disk) (i s b : ℕ) → IsDisk d → i < 16 → s < 4
    → ((m : ℕ) → m < 10 → place_of (with_bytes_at d (256 + 16 * i + (4 + s)) (b ∷ [])) i m ≡ place_of d i m)
    → Makes d (pointer_set i s b) (with_pointer (tables_of d) i s b)
unfolding tables_of
pointer-makes d i s b disk below small own =
    let t = tables_of d in
    let at = 256 + 16 * i + (4 + s) in
    let e = with_bytes_at d at (b ∷ []) in
    let inside : at + 1 ≤ length d.bytes = omega (arith, disk.whole, disk.least) in
    let spot : 128 * (2 + i / 8) + (16 * (i % 8) + (4 + s)) ≡ at = omega arith in
    let kind : kind_of e i ≡ kind_of d i = byte-outside d.bytes at (b ∷ []) (256 + 16 * i) inside (inl (omega arith)) in
    let links : links_of e i ≡ links_of d i = byte-outside d.bytes at (b ∷ []) (257 + 16 * i) inside
    (inl (omega arith)) in
    let generation : generation_of e i ≡ generation_of d i = generation-same d e.bytes i
    (byte-outside d.bytes at (b ∷ []) (258 + 16 * i) inside (inl (omega arith))) in
    let here : pointer_of e i s ≡ b = byte-inside d.bytes at (b ∷ []) 0 (260 + 16 * i + s) inside (omega arith)
    (omega arith) in
    let others : (r : ℕ) → r < 4 → r ≢ s → pointer_of e i r ≡ pointer_of d i r =
    λ r less other. byte-outside d.bytes at (b ∷ []) (260 + 16 * i + r) inside (elim (cases_order r s) [
      | inl same ↦ absurd (other same)
      | inr ne ↦ elim ne [ inl h ↦ inl (omega arith) | inr h ↦ inr (omega arith) ]
    ]) in
    let own_row : within 0 4 (pointer_of e i) ≡ with_value (t.pointer i) s b =
    within-with_value 0 4 s (pointer_of d i) (pointer_of e i) small others
    ∙ ap (λ (x : ℕ). with_value (within 0 4 (pointer_of d i)) s x) here
    ∙ ap (λ (f : ℕ → ℕ). with_value f s b) (sym (row d i below)) in
    record {
      disk = inode-disk d i (4 + s) (b ∷ []) disk below (omega arith);
      tables = ap (λ (x : ℕ). tables_of (with_bytes_at d x (b ∷ []))) spot
          ∙ tables-inode d i (4 + s) (b ∷ []) disk below (omega arith) own
          ∙ same_tables t.blocks t.journal _ _ _ _ _ _ _ _ _ _ _ _
          (with_value-kept t.kind i (kind_of e i) (kind ∙ sym (kind-at d i below)))
          (with_value-kept t.links i (links_of e i) (links ∙ sym (links_row d i below)))
          (ap (with_value t.pointer i) own_row)
          refl (marks-inode d i (4 + s) (b ∷ []) disk below (omega arith) generation) refl;
    }
  where
    row : (d : Disk) (i : ℕ) → i < 16 → within (λ _. 0) 16 (λ j. within 0 4 (pointer_of d j)) i
        ≡ within 0 4 (pointer_of d i)
    row d i below = rw (lt-ltb i 16 below) refl

    links_row : (d : Disk) (i : ℕ) → i < 16 → within 0 16 (links_of d) i ≡ links_of d i
    links_row d i below = rw (lt-ltb i 16 below) refl

-- the kind stays as it was
pub pointer-kind : (d : Disk) (i s b : ℕ) → IsDisk d → i < 16 → s < 4
    → kind_of (with_bytes_at d (256 + 16 * i + (4 + s)) (b ∷ [])) i ≡ kind_of d i
pointer-kind d i s b disk below small = byte-outside d.bytes (256 + 16 * i + (4 + s)) (b ∷ []) (256 + 16 * i)
    (omega (arith, disk.whole, disk.least)) (inl (omega arith))

-- a block that has a directory's mark and nothing else has no entries, whichever directory it is given to
pub empty-place : (d' d : Disk) (role : Role) (i b mark : ℕ) → IsDisk d → i < 16 → 4 ≤ b → b < d.blocks
    → (m : ℕ) → m < 10
    → (let e = with_changes d (init_block d' role b mark i ∷ []) in
    place_of (with_bytes_at e (256 + 16 * i + (4 + 0)) (b ∷ [])) i m ≡ Free)
empty-place d' d role i b mark disk below low high m small =
    let new = mark ∷ i ∷ generation_of d' i ∷ replicate 125 0 in
    let e : Disk = with_bytes_at d (128 * b + 0) new in
    let at = 256 + 16 * i + (4 + 0) in
    let f = with_bytes_at e at (b ∷ []) in
    let fits : 128 * b + 0 + length new ≤ length d.bytes = omega (arith, disk.whole) in
    let disk_e : IsDisk e = disk-with_bytes_at d (128 * b + 0) new disk fits in
    let inside : at + 1 ≤ length e.bytes = omega (arith, disk_e.whole, disk_e.least) in
    let here : pointer_of f i 0 ≡ b = byte-inside e.bytes at (b ∷ []) 0 (260 + 16 * i + 0) inside (omega arith)
    (omega arith) in
    let old : byte f b (8 + 12 * m) ≡ byte e b (8 + 12 * m) = byte-outside e.bytes at (b ∷ []) (128 * b + (8 + 12 * m))
    inside (inr (omega arith)) in
    let none : byte e b (8 + 12 * m) ≡ 0 =
    byte-inside d.bytes (128 * b + 0) new (8 + 12 * m) (128 * b + (8 + 12 * m)) fits (omega arith) (omega arith)
    ∙ behind_three mark i (generation_of d' i) 125 (8 + 12 * m) (omega arith) in
    let entry : entry_of f i m ≡ 0 = ap (λ (x : ℕ). byte f x (8 + 12 * m)) here ∙ old ∙ none in
    free_place (counts f i) (entry_of f i m) _ entry
  where
    free_place : (b : Bool) (n : ℕ) (sp : List ℕ) → n ≡ 0 → place_at b n sp ≡ Free
    free_place true n sp e = rw e refl
    free_place false n sp e = refl

-- ---- the allocation map

pub map_set-makes : (d : Disk) (b : ℕ) → IsDisk d → b < d.blocks → Makes d (map_set b) (with_used (tables_of d) b true)
map_set-makes d b disk below = record {
  disk = disk-with_bytes_at d (128 * 1 + b) (1 ∷ []) disk
      (omega (arith, disk.whole, disk.most));
  tables = tables-map d b 1 disk below;
}

pub map_clear-makes : (d : Disk) (b : ℕ) → IsDisk d → b < d.blocks
    → Makes d (map_clear b) (with_used (tables_of d) b false)
map_clear-makes d b disk below = record {
  disk = disk-with_bytes_at d (128 * 1 + b) (0 ∷ []) disk
      (omega (arith, disk.whole, disk.most));
  tables = tables-map d b 0 disk below;
}

-- ---- a block that no directory has

-- the third byte of a block is the generation that its owner has; without generations both are 0
written : (d : Disk) (b owner : ℕ) (new : List ℕ)
    → get_or (overwrite d.bytes (128 * b + 0) new) (128 * b + 2) 0 ≡ generation_of d owner
    → (let e = with_bytes_at d (128 * b + 0) new in
    generation_of e owner ≡ generation_of d owner → mark_generation e b ≡ generation_of e owner)
unfolding mark_generation generation_of
written d b owner new is kept = go d.generations _ _ _ is kept
  where
    go : (g : Bool) (x y z : ℕ) → x ≡ cond g y 0 → cond g z 0 ≡ cond g y 0 → cond g x 0 ≡ cond g z 0
    go true x y z p q = p ∙ sym q
    go false x y z p q = refl

-- the generation that is written is that of the owner
pub block-makes : (d' d : Disk) (role : Role) (b mark owner : ℕ) → IsDisk d → is_data d b ≡ true → owner < 16
    → generation_of d' owner ≡ generation_of d owner
    → ((dir : ℕ) → dir < 16 → kind_of d dir ≡ 2 → pointer_of d dir 0 ≢ b)
    → Makes d (init_block d' role b mark owner) (with_mark (tables_of d) b (mark_at true mark owner))
unfolding tables_of
block-makes d' d role b mark owner disk inside owner_below owner_generation none =
    let t = tables_of d in
    let new = mark ∷ owner ∷ generation_of d' owner ∷ replicate 125 0 in
    let at = 128 * b + 0 in
    let e = with_bytes_at d at new in
    let area = data-block d b inside in
    let full : length new ≡ 128 = refl in
    let fits : at + length new ≤ length d.bytes = omega (arith, disk.whole, area.1) in
    let early : (j : ℕ) → j < 512 → get_or e.bytes j 0 ≡ get_or d.bytes j 0 =
    λ j less. byte-outside d.bytes at new j fits (inl (omega (arith, area.0))) in
    let kinds : (j : ℕ) → j < 16 → kind_of e j ≡ kind_of d j = λ j less. early (256 + 16 * j) (omega arith) in
    let gens : (j : ℕ) → j < 16 → generation_of e j ≡ generation_of d j =
    λ j less. generation-same d e.bytes j (early (258 + 16 * j) (omega arith)) in
    let pointers : (j s : ℕ) → j < 16 → s < 4 → pointer_of e j s ≡ pointer_of d j s =
    λ j s less small. early (260 + 16 * j + s) (omega arith) in
    let blocks : (c : ℕ) → c ≢ b → SameBlock d e c = λ c other. same-block d at new c fits (elim (cases_order c b) [
      | inl h ↦ absurd (other h)
      | inr h ↦ elim h [ inl less ↦ inl (omega arith) | inr more ↦ inr (omega arith) ]
    ]) in
    let first : byte e b 0 ≡ mark = byte-inside d.bytes at new 0 (128 * b + 0) fits (omega arith) (omega arith) in
    let second : byte e b 1 ≡ owner = byte-inside d.bytes at new 1 (128 * b + 1) fits (omega arith) (omega arith) in
    let third : mark_generation e b ≡ generation_of e owner = written d b owner new
    (byte-inside d.bytes at new 2 (128 * b + 2) fits (omega arith) (omega arith) ∙ owner_generation)
    (gens owner owner_below) in
    let current : is_current e b ≡ true =
    rw (inside, second, lt-ltb owner 16 owner_below, eq-eqb (mark_generation e b) (generation_of e owner) third) refl in
    record {
      disk = disk-with_bytes_at d at new disk fits;
      tables = same_tables t.blocks t.journal _ _ _ _ _ _ _ _ _ _ _ _
          (within-same 0 16 (kind_of d) (kind_of e) kinds)
          (within-same 0 16 (links_of d) (links_of e) (λ j less. early (257 + 16 * j) (omega arith)))
          (within-same (λ _. 0) 16 (λ h. within 0 4 (pointer_of d h)) (λ h. within 0 4 (pointer_of e h))
          (λ j less. within-same 0 4 (pointer_of d j) (pointer_of e j) (λ s small. pointers j s less small)))
          (within-same false d.blocks (λ c. not (eqb (map_of d c) 0)) (λ c. not (eqb (map_of e c) 0))
          (λ c less. ap (λ (x : ℕ). not (eqb x 0)) (early (128 + c) (omega (arith, disk.most)))))
          (fun_ext (λ c. elim (cases_eq c b) [
            | inl here ↦ rw (eq-eqb c b here, here, current, first, second) refl
            | inr other ↦ rw (ne_eqb c b other) (mark-same d e.bytes c gens (λ _. blocks c other))
          ]))
          (within-same (λ _. Free) 16 (λ dir. within Free 10 (place_of d dir)) (λ dir. within Free 10 (place_of e dir))
          (λ dir less. within-same Free 10 (place_of d dir) (place_of e dir)
          (λ k small. elim (cases_eq (kind_of d dir) 2) [
            | inl two ↦ place-same d e.bytes dir k small (kinds dir less) (pointers dir 0 less (omega arith))
                (gens dir less) (λ _. blocks (pointer_of d dir 0) (none dir less two))
            | inr other ↦ place-no_directory e dir k (λ z. other (sym (kinds dir less) ∙ z))
                ∙ sym (place-no_directory d dir k other)
          ])));
    }

-- ---- entries

-- a directory is in the tables as it was on an earlier disk
pub record Stands (d e : Disk) (dir : ℕ) : Type 0 where
  pub below : dir < 16
  pub kind : (tables_of e).kind dir ≡ 2
  pub mark : (tables_of e).mark ((tables_of e).pointer dir 0) ≡ DirectoryOf dir
  pub block : (tables_of e).pointer dir 0 ≡ (tables_of d).pointer dir 0

stands-block : (d e : Disk) (dir : ℕ) → Stands d e dir → pointer_of e dir 0 ≡ pointer_of d dir 0
stands-block d e dir s = sym (pointer-at e dir 0 s.below (omega arith)) ∙ s.block
    ∙ pointer-at d dir 0 s.below (omega arith)

entry-disk : (d e : Disk) (dir k : ℕ) (new : List ℕ) → IsDisk e → Stands d e dir → k < 10 → length new ≤ 12
    → IsDisk (with_bytes_at e (128 * pointer_of d dir 0 + entry_offset k) new)
entry-disk d e dir k new disk s small few =
    let own = counts-parts e dir (counts-by_tables e dir s.below s.kind s.mark) in
    let high = own.high in
    let same = stands-block d e dir s in
    disk-with_bytes_at e (128 * pointer_of d dir 0 + entry_offset k) new disk (omega (arith, disk.whole))

pub set-makes : (d e : Disk) (dir k i : ℕ) (name : List ℕ) → IsDisk e → Stands d e dir → k < 10 → length name ≤ 10
    → Makes e (entry_set d dir k i name) (with_entry (tables_of e) dir k (Leads i (name_spelling name)))
set-makes d e dir k i name disk s small short =
    let twelve : length ((i + 1) ∷ name_spelling name) ≤ 12 = grind (arith, elements) in
    record {
      disk = entry-disk d e dir k ((i + 1) ∷ name_spelling name) disk s small twelve;
      tables = ap (λ (p : ℕ). tables_of (with_bytes_at e (128 * p + entry_offset k) ((i + 1) ∷ name_spelling name)))
          (sym (stands-block d e dir s))
          ∙ tables-entry_set e dir k i name disk s.below small (counts-by_tables e dir s.below s.kind s.mark) short;
    }

pub clear-makes : (d e : Disk) (dir k : ℕ) → IsDisk e → Stands d e dir → k < 10
    → Makes e (entry_clear d dir k) (with_entry (tables_of e) dir k Free)
clear-makes d e dir k disk s small = record {
  disk = entry-disk d e dir k (replicate 12 0) disk s small (omega arith);
  tables = ap (λ (p : ℕ). tables_of (with_bytes_at e (128 * p + entry_offset k) (replicate 12 0)))
      (sym (stands-block d e dir s))
      ∙ tables-entry_clear e dir k disk s.below small (counts-by_tables e dir s.below s.kind s.mark);
}
