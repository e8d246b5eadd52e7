-- The tests of the operations on a sound disk, said of its view.
use Rattle.std.proofs.Common.{◌≡◌, ◌≢◌, ℕ, ◌<◌, ◌≤◌, ◌⊎◌, ◌↔◌, inl, inr, List, [], Bool, true, false, ◌&&◌, not, eqb}
use Rattle.std.proofs.Common.{leb, Option, Some, None, arith, refl, sym, ◌∙◌, ap}
use Rattle.std.specs.Prelude.{is_some}
use Rattle.std.proofs.lemmas.Bool.{cases_eq, cases_lt, eq-eqb, ne_eqb, eqb-true, eqb-false, le-leb, leb-true}
use Rattle.std.proofs.lemmas.Bool.{false≢true}
use Rattle.std.proofs.lemmas.Bool.Decides.{nat_tests}
use Rattle.crash_model.specs.Disk.{Disk}
use Rattle.crash_model.specs.Layout.{kind_of, links_of, pointer_of, map_of, is_data, is_entry, counts, entry_of}
use Rattle.crash_model.specs.Layout.{target_of, spelling_of}
use Rattle.crash_model.specs.Lists.{first_below}
use Rattle.crash_model.specs.Plan.{name_spelling, entry_named, is_free_inode, free_inode, is_free_block, free_block}
use Rattle.crash_model.specs.Plan.{is_free_entry, free_entry, is_free_slot, free_slot, has_entries}
use Rattle.crash_model.specs.View.{view_of}
use Rattle.crash_model.specs.Meaning.{LeadsTo, IsKind, IsFull, NoInodeLeft, NoBlockLeft, IsFreeSlot, LacksBlockIn}
use Rattle.crash_model.specs.Plan.{lacks_block_in}
use Rattle.crash_model.specs.Slots.{slot_number}
use Rattle.crash_model.specs.declared.operations.Slot.{Slot}
use Rattle.crash_model.specs.declared.operations.Slot.TheVariants.{Zero, One, Two, Three}
use Rattle.soundness_laws.specs.Tables.{tables_of, Sound}
use Rattle.soundness_laws.specs.Tables.Place.{Leads}
use Rattle.soundness_laws.proofs.Searches.{first_below-is_none, first_below-is_some}
use Rattle.soundness_laws.proofs.Pigeons.{each-taken}
use Rattle.soundness_laws.proofs.ByTables.{kind-at, pointer-at, entry-bytes, counts-by_tables}
use Rattle.soundness_laws.proofs.Views.{links-at, used-at, entry-is, same-view}
use Rattle.soundness_laws.proofs.FromTables.{entry-in, area}
use Rattle.soundness_laws.proofs.Meant.{name_spelling-injective}
use Rattle.inode_fs.proofs.Searched.{Walked, fresh-found, block-found, slot-found, named-found, absent-found}
use Rattle.inode_fs.proofs.Means.{name-of, kind-of}

-- ---- searches that found nothing, or something

none-is : (o : Option ℕ) → ((k : ℕ) → o ≢ Some k) → o ≡ None
none-is None no_some = refl
none-is (Some k) no_some = absurd (no_some k refl)

is_some-is : (o : Option ℕ) → is_some o ≡ true → (k : ℕ) × (o ≡ Some k)
is_some-is (Some k) e = (k, refl)
is_some-is None e = cc

some-is : (o : Option ℕ) → (o ≢ None) → is_some o ≡ true
some-is (Some k) some = refl
some-is None some = absurd (some refl)

-- ---- 12: the name is there

-- the inode of a name is the one that is found
pub record NamedBy (d : Disk) (dir : ℕ) (name : List ℕ) (i : ℕ) : Type 0 where
  pub k : ℕ
  pub named : entry_named d dir name ≡ Some k
  pub target : target_of d dir k ≡ i

pub named-by : (d : Disk) (dir : ℕ) (name : List ℕ) (i : ℕ) → Sound (tables_of d) → dir < 16
    → (view_of d).name dir name i → NamedBy d dir name i
named-by d dir name i sound below h = go (entry_named d dir name) refl
  where
    place : (k : ℕ) × ((tables_of d).entry dir k ≡ Leads i (name_spelling name))
    place = ((same-view d).names dir name i).0 h

    go : (o : Option ℕ) → entry_named d dir name ≡ o → NamedBy d dir name i
    go None e = absurd (absent-found d dir name sound e place.0 i place.1)
    go (Some k) e =
        let n = named-found d dir name k below e in
        let same : k ≡ place.0 = sound.names.distinct dir k place.0 (target_of d dir k) i (name_spelling name) n.leads
        place.1 in
        let both : Leads (target_of d dir k) (name_spelling name) ≡ Leads i (name_spelling name) = sym n.leads
        ∙ ap ((tables_of d).entry dir) same ∙ place.1 in
        record { k = k; named = e; target = cc }

pub test-named : (d : Disk) (dir : ℕ) (name : List ℕ) → Sound (tables_of d) → dir < 16
    → ((is_some (entry_named d dir name) ≡ true) ↔ LeadsTo (view_of d) dir name)
test-named d dir name sound below = (
  λ e.
      let found = is_some-is (entry_named d dir name) e in (
        target_of d dir found.0,
        name-of d dir found.0 (target_of d dir found.0) name
            (named-found d dir name found.0 below found.1).leads,
      ),
  λ h. let by = named-by d dir name h.0 sound below h.1 in ap is_some by.named,
)

-- ---- 15: no inode is left

pub test-inode : (d : Disk) → ((free_inode d ≡ None) ↔ NoInodeLeft (view_of d))
test-inode d = (
  λ e i below.
      let live : (tables_of d).kind i ≢ 0 = λ z. eqb-false (kind_of d i) 0
      (first_below-is_none 16 (is_free_inode d) e i below) (sym (kind-at d i below) ∙ z) in (
        (tables_of d).kind i,
        (tables_of d).links i,
        ((same-view d).inodes i ((tables_of d).kind i)
            ((tables_of d).links i)).1 (refl, refl, live),
      ),
  λ all. none-is (free_inode d) (λ i e.
      let fresh = fresh-found d i 1 e (omega arith, omega arith) in
      let w = all i fresh.below in
      let in_tables = ((same-view d).inodes i w.0 w.1).0 w.2 in
      in_tables.2 (sym in_tables.0 ∙ fresh.free)),
)

-- ---- 16: no block is left

pub test-block : (d : Disk) → ((free_block d ≡ None) ↔ NoBlockLeft d.blocks d.journal (view_of d))
unfolding tables_of
test-block d = (
  λ e b free.
      let none = first_below-is_none d.blocks (is_free_block d) e b free.1 in
      let inside : is_data d b ≡ true = area d b (free.0, free.1) in
      let marked : map_of d b ≢ 0 = λ z. false≢true (sym none ∙ rw (inside, eq-eqb (map_of d b) 0 z) refl) in
      free.2 (((same-view d).used_blocks b).1 (free.0, used-at d b free.1 ∙ ap not (ne_eqb (map_of d b) 0 marked))),
  λ none. none-is (free_block d) (λ b e.
      let f = block-found d b e in
      none b (f.low, f.high, λ u. false≢true (sym f.free ∙ (((same-view d).used_blocks b).0 u).1))),
)

-- ---- 18: no slot is left

pub test-slot : (d : Disk) (i : ℕ) → i < 16 → (tables_of d).kind i ≢ 0
    → ((free_slot d i ≡ None) ↔ ((s : ℕ) → ¬ (IsFreeSlot (view_of d) i s)))
test-slot d i below live = (
  λ e s free.
      let some = eqb-false (pointer_of d i s) 0 (first_below-is_none 4 (is_free_slot d i) e s free.0) in
      free.1 (pointer_of d i s) (((same-view d).pointers i s (pointer_of d i s)).1
      (live, pointer-at d i s below free.0, some)),
  λ none. none-is (free_slot d i) (λ s e.
      let f = slot-found d i s below e in
      none s (
        f.below,
        λ b h. let in_tables = ((same-view d).pointers i s b).0 h in
            in_tables.2 (sym in_tables.1 ∙ f.empty),
      )),
)

-- ---- 17: the directory is full

-- an entry in use of a directory, with its name
record UsedEntry (d : Disk) (dir k : ℕ) : Type 0 where
  inode : ℕ
  name : List ℕ
  leads : (tables_of d).entry dir k ≡ Leads inode (name_spelling name)

used-entry : (d : Disk) (dir k : ℕ) → Sound (tables_of d) → dir < 16 → k < 10 → is_entry d dir k ≡ true
    → UsedEntry d dir k
used-entry d dir k sound below small e =
    let at = entry-in d dir k below small e in
    let w = sound.names.named dir k (target_of d dir k) (spelling_of d dir k) at in
    record { inode = target_of d dir k; name = w.0; leads = at ∙ ap (Leads (target_of d dir k)) w.2 }

counting : (d : Disk) (dir : ℕ) → Sound (tables_of d) → Walked d dir → counts d dir ≡ true
counting d dir sound walk =
    let t = tables_of d in
    let two = walk.kind in
    counts-by_tables d dir walk.below two (sound.blocks.directory_blocks dir 0 (t.pointer dir 0)
    ((λ z. omega arith), refl, (sound.blocks.one_block dir two).0) two)

-- the names of a full directory, by place
full-names : (d : Disk) (dir : ℕ) → Sound (tables_of d) → dir < 16 → ((k : ℕ) → k < 10 → UsedEntry d dir k)
    → IsFull (view_of d) dir
full-names d dir sound below all = (
  λ k. name k (cases_lt k 10),
  λ k small. leads k (cases_lt k 10) small,
  λ j k less small. apart j k (cases_lt j 10) (cases_lt k 10) less small,
)
  where
    name : (k : ℕ) → (k < 10) ⊎ (10 ≤ k) → List ℕ
    name k (inl less) = (all k less).name
    name k (inr more) = []

    leads : (k : ℕ) (c : (k < 10) ⊎ (10 ≤ k)) → k < 10 → LeadsTo (view_of d) dir (name k c)
    leads k (inl less) small = let u = all k less in (u.inode, name-of d dir k u.inode u.name u.leads)
    leads k (inr more) small = absurd (omega arith)

    apart : (j k : ℕ) (c : (j < 10) ⊎ (10 ≤ j)) (e : (k < 10) ⊎ (10 ≤ k)) → j < k → k < 10 → name j c ≢ name k e
    apart j k (inl in_j) (inl in_k) less small same =
        let u = all j in_j in
        let v = all k in_k in
        let at = sound.names.distinct dir j k u.inode v.inode (name_spelling u.name) u.leads
        (v.leads ∙ ap (λ (x : List ℕ). Leads v.inode (name_spelling x)) (sym same)) in
        omega arith
    apart j k (inr more) e less small same = omega arith
    apart j k (inl in_j) (inr more) less small same = omega arith

pub test-full : (d : Disk) (dir : ℕ) → Sound (tables_of d) → Walked d dir
    → ((free_entry d dir ≡ None) ↔ IsFull (view_of d) dir)
test-full d dir sound walk = (
  λ e. full-names d dir sound walk.below (λ k small. used-entry d dir k sound walk.below small
      (taken k (first_below-is_none 10 (is_free_entry d dir) e k small))),
  λ full. none-is (free_entry d dir) (λ m e.
      let f = first_below-is_some 10 (is_free_entry d dir) m e in
      let place : ℕ → ℕ = λ k. spot full k (cases_lt k 10) in
      let hit = each-taken 10 place (λ k small. spot-below full k (cases_lt k 10) small)
      (λ j k less small. spot-apart full j k (cases_lt j 10) (cases_lt k 10) less small) m f.below in
      held full hit.0 (cases_lt hit.0 10) hit.1 m hit.2 f.holds),
)
  where
    taken : (k : ℕ) → is_free_entry d dir k ≡ false → is_entry d dir k ≡ true
    taken k e = both (counts d dir) (eqb (entry_of d dir k) 0) (counting d dir sound walk) e
      where
        both : (a b : Bool) → a ≡ true → (a && b) ≡ false → (a && not b) ≡ true
        both true true p q = cc
        both true false p q = refl
        both false b p q = cc

    -- the place of a name of a full directory
    spot : IsFull (view_of d) dir → (k : ℕ) → (k < 10) ⊎ (10 ≤ k) → ℕ
    spot full k (inl less) = (((same-view d).names dir (full.0 k) (full.1 k less).0).0 (full.1 k less).1).0
    spot full k (inr more) = 0

    spot-leads : (full : IsFull (view_of d) dir) (k : ℕ) (less : k < 10)
        → (tables_of d).entry dir (spot full k (inl less)) ≡ Leads (full.1 k less).0 (name_spelling (full.0 k))
    spot-leads full k less = (((same-view d).names dir (full.0 k) (full.1 k less).0).0 (full.1 k less).1).1

    spot-below : (full : IsFull (view_of d) dir) (k : ℕ) (c : (k < 10) ⊎ (10 ≤ k)) → k < 10 → spot full k c < 10
    spot-below full k (inl less) small = (sound.names.places dir (spot full k (inl less))
        _ _ (spot-leads full k less)).1
    spot-below full k (inr more) small = absurd (omega arith)

    spot-apart : (full : IsFull (view_of d) dir) (j k : ℕ) (c : (j < 10) ⊎ (10 ≤ j)) (e : (k < 10) ⊎ (10 ≤ k)) → j < k
        → k < 10 → spot full j c ≢ spot full k e
    spot-apart full j k (inl in_j) (inl in_k) less small same =
        let both : Leads (full.1 j in_j).0 (name_spelling (full.0 j)) ≡ Leads (full.1 k in_k).0
        (name_spelling (full.0 k)) =
        sym (spot-leads full j in_j) ∙ ap ((tables_of d).entry dir) same ∙ spot-leads full k in_k in
        let spelling : name_spelling (full.0 j) ≡ name_spelling (full.0 k) = cc in
        full.2 j k less small (name_spelling-injective (full.0 j) (full.0 k) spelling)
    spot-apart full j k (inr more) e less small same = omega arith
    spot-apart full j k (inl in_j) (inr more) less small same = omega arith

    held : (full : IsFull (view_of d) dir) (k : ℕ) (c : (k < 10) ⊎ (10 ≤ k)) → k < 10 → (m : ℕ) → spot full k c ≡ m
        → is_free_entry d dir m ≡ true → ⊥
    held full k (inl less) small m at free =
        let b = entry-bytes d dir (spot full k (inl less)) _ _ (spot-leads full k less) in
        let first = b.first in
        let zero_byte : entry_of d dir m ≡ 0 = grind (arith, nat_tests) in
        let same : entry_of d dir (spot full k (inl less)) ≡ entry_of d dir m = ap (entry_of d dir) at in
        omega arith
    held full k (inr more) small m at free = omega arith

-- ---- 11 and 13: the kind is another

pub test-kind : (d : Disk) (i kind : ℕ) → i < 16 → kind ≢ 0
    → ((not (eqb (kind_of d i) kind) ≡ true) ↔ (¬ (IsKind (view_of d) i kind)))
test-kind d i kind below some = (
  λ e w.
      let in_tables = ((same-view d).inodes i kind w.0).0 w.1 in
      opposite (eqb (kind_of d i) kind) e (eq-eqb (kind_of d i) kind (sym (kind-at d i below) ∙ in_tables.0)),
  λ none. elim (cases_eq (kind_of d i) kind) [
    | inl same ↦ absurd (none (kind-of d i kind (kind-at d i below ∙ same) some))
    | inr other ↦ rw (ne_eqb (kind_of d i) kind other) refl
  ],
)
  where
    opposite : (b : Bool) → not b ≡ true → b ≡ true → ⊥
    opposite true e f = cc
    opposite false e f = cc

-- ---- 19: a file has eight names

pub test-links : (d : Disk) (i : ℕ) → Sound (tables_of d) → i < 16 → (tables_of d).kind i ≢ 0
    → ((leb 8 (links_of d i) ≡ true) ↔ (view_of d).inode i 1 8)
test-links d i sound below live = (
  λ e.
      let t = tables_of d in
      let many = leb-true 8 (links_of d i) e in
      let links = links-at d i below in
      let small = sound.inodes.kinds i in
      elim (cases_eq (t.kind i) 1) [
        | inl one ↦
            let few = sound.inodes.few_names i one in
            ((same-view d).inodes i 1 8).1 (one, omega (arith, few.1), λ z. omega arith)
        | inr other ↦ absurd (
            let two : t.kind i ≡ 2 = pick (t.kind i) live other small in
            let one_link = sound.inodes.one_name i two in
            omega arith)
      ],
  λ w.
      let in_tables = ((same-view d).inodes i 1 8).0 w in
      let links = links-at d i below in
      le-leb 8 (links_of d i) (omega (arith, in_tables.1)),
)
  where
    pick : (k : ℕ) → k ≢ 0 → k ≢ 1 → k < 3 → k ≡ 2
    pick k a b c = omega arith

-- ---- 14: the directory has a name

pub test-entries : (d : Disk) (i : ℕ) → Sound (tables_of d) → i < 16
    → ((has_entries d i ≡ true) ↔ ((name : List ℕ) × LeadsTo (view_of d) i name))
test-entries d i sound below = (
  λ e.
      let found = is_some-is (first_below 10 (is_entry d i)) e in
      let f = first_below-is_some 10 (is_entry d i) found.0 found.1 in
      let u = used-entry d i found.0 sound below f.below f.holds in
      (u.name, (u.inode, name-of d i found.0 u.inode u.name u.leads)),
  λ w. some-is (first_below 10 (is_entry d i)) (λ none.
      let place = ((same-view d).names i w.0 w.1.0).0 w.1.1 in
      let b = entry-bytes d i place.0 w.1.0 (name_spelling w.0) place.1 in
      false≢true (sym (first_below-is_none 10 (is_entry d i) none place.0 b.in_place)
      ∙ (entry-is d i place.0 w.1.0 (name_spelling w.0) b).0)),
)

-- ---- 10: a slot that is asked for names no block

slot-below : (slot : Slot) → slot_number slot < 4
slot-below Zero = omega arith
slot-below One = omega arith
slot-below Two = omega arith
slot-below Three = omega arith

pub test-lacks_block : (d : Disk) (i : ℕ) (slot : Option Slot) → i < 16 → (tables_of d).kind i ≢ 0
    → ((lacks_block_in d i slot ≡ true) ↔ LacksBlockIn (view_of d) i slot)
test-lacks_block d i None below live = (λ e. cc, λ none. absurd none)
test-lacks_block d i (Some slot) below live = (
  λ e b h.
      let in_tables = ((same-view d).pointers i (slot_number slot) b).0 h in
      let none = eqb-true (pointer_of d i (slot_number slot)) 0 e in
      in_tables.2 (sym in_tables.1 ∙ pointer-at d i (slot_number slot) below (slot-below slot) ∙ none),
  λ none. elim (cases_eq (pointer_of d i (slot_number slot)) 0) [
    | inl zero ↦ eq-eqb (pointer_of d i (slot_number slot)) 0 zero
    | inr some ↦ absurd (none (pointer_of d i (slot_number slot)) (((same-view d).pointers i (slot_number slot)
        (pointer_of d i (slot_number slot))).1 (live, pointer-at d i (slot_number slot) below (slot-below slot), some)))
  ],
)

-- ---- 12: both names lead to one file

pub test-same : (i j : ℕ) → ((eqb i j ≡ true) ↔ (i ≡ j))
test-same i j = (λ e. eqb-true i j e, λ same. eq-eqb i j same)
