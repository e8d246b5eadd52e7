-- What each operation gains and loses, said of the view of tables.
use Rattle.std.proofs.Common.{◌≡◌, ◌≢◌, ℕ, ◌+◌, ◌-◌, ◌≤◌, ◌⊎◌, ◌↔◌, inl, inr, List, ◌++◌, Bool, true, length, take}
use Rattle.std.proofs.Common.{replicate, arith, refl, sym, ◌∙◌, ap, subst}
use mathlib.Core.Path.{fun_ext}
use Rattle.std.proofs.lemmas.Bool.{cases_eq, eq-eqb, ne_eqb}
use Rattle.std.proofs.lemmas.Grind.{elements}
use Rattle.crash_model.specs.Plan.{name_spelling}
use Rattle.crash_model.specs.View.{View}
use Rattle.crash_model.specs.Meaning.{nothing, with_name, with_inode, with_block, with_blocks_of, with_all_of, Becomes}
use Rattle.crash_model.specs.Meaning.{names_replaced}
use Rattle.soundness_laws.specs.Tables.{Tables, Place, Mark, with_value, with_place, tables_after_create}
use Rattle.soundness_laws.specs.Tables.{tables_after_write, tables_after_link, tables_after_unlink}
use Rattle.soundness_laws.specs.Tables.{tables_after_removal, tables_after_mkdir, tables_after_truncate}
use Rattle.soundness_laws.specs.Tables.{NameIn, InodeIn, HasPointer, UsedIn}
use Rattle.soundness_laws.specs.Tables.{view, Sound}
use Rattle.soundness_laws.specs.Tables.Place.{Free, Leads}
use Rattle.soundness_laws.specs.Tables.Mark.{FileOf, DirectoryOf}
use Rattle.soundness_laws.proofs.Sums.{with_value-same, with_value-other, changed_twice-same, changed_twice-other}
use Rattle.soundness_laws.proofs.Names.{entry_back, entry_kept, left_back}
use Rattle.soundness_laws.proofs.Inodes.{IsFresh, not-fresh}
use Rattle.soundness_laws.proofs.Blocks.{FreesBlocks, GainsBlock, pointer-back, pointer-kept, pointer-gained}
use Rattle.soundness_laws.proofs.Kept.{CanCreate, CanMake, tables_after_mkdir-gains, CanGrow, tables_after_write-gains}
use Rattle.soundness_laws.proofs.Kept.{CanLink, CanUnlink, CanRemove, CanCut}

pub name_spelling-injective : (a b : List ℕ) → name_spelling a ≡ name_spelling b → a ≡ b
name_spelling-injective a b e =
    let size : length a ≡ length b = cc in
    let rest : a ++ replicate (10 - length a) 0 ≡ b ++ replicate (10 - length b) 0 = cc in
    let front : (x : List ℕ) (n : ℕ) → n ≡ length x → take n (x ++ replicate (10 - length x) 0) ≡ x =
    λ x n same. grind (arith, elements) in
    sym (front a (length a) refl) ∙ ap (take (length a)) rest ∙ front b (length a) size

-- ---- nothing gained and nothing lost

abbrev pub Unchanged : Type 0 → Type 0 → Type 0
Unchanged A B = B ↔ ((A × (¬ ⊥)) ⊎ ⊥)

unchanged : (A : Type 0) → Unchanged A A
unchanged A = (λ h. inl (h, λ z. z), λ h. elim h [ inl old ↦ old.0 | inr g ↦ absurd g ])

-- ---- names

names-gained : (t : Tables) (dir k i : ℕ) (name : List ℕ) (new : Tables) → t.entry dir k ≡ Free
    → new.entry ≡ with_place t.entry dir k (Leads i (name_spelling name))
    → (d : ℕ) (n : List ℕ) (j : ℕ) → (NameIn new d n j ↔ ((NameIn t d n j × (¬ ⊥))
    ⊎ ((d ≡ dir) × (n ≡ name) × (j ≡ i))))
names-gained t dir k i name new free is d n j =
    let at : (m : ℕ) → new.entry d m ≡ with_place t.entry dir k (Leads i (name_spelling name)) d m =
    λ m. ap (λ (f : ℕ → ℕ → Place). f d m) is in (
      λ w. elim (entry_back t.entry dir k i (name_spelling name) d w.0 j (name_spelling n) (sym (at w.0) ∙ w.1)) [
        | inl b ↦ inr (b.0, name_spelling-injective n name b.3, b.2)
        | inr b ↦ inl ((w.0, b.1), λ z. z)
      ],
      λ w. elim w [
        | inl old ↦ (
          old.0.0,
          at old.0.0 ∙ entry_kept t.entry dir k (Leads i (name_spelling name)) d old.0.0 j
              (name_spelling n) free old.0.1,
        )
        | inr g ↦ (k, at k ∙ rw (g.0, g.1, g.2) (changed_twice-same t.entry dir k (Leads i (name_spelling name))))
      ],
    )

names-lost : (t : Tables) (dir k i : ℕ) (name : List ℕ) (new : Tables) → Sound t
    → t.entry dir k ≡ Leads i (name_spelling name) → new.entry ≡ with_place t.entry dir k Free
    → (d : ℕ) (n : List ℕ) (j : ℕ) → (NameIn new d n j ↔ ((NameIn t d n j × (¬ ((d ≡ dir) × (n ≡ name) × (j ≡ i))))
    ⊎ ⊥))
names-lost t dir k i name new sound there is d n j =
    let at : (m : ℕ) → new.entry d m ≡ with_place t.entry dir k Free d m =
    λ m. ap (λ (f : ℕ → ℕ → Place). f d m) is in (
      λ w.
          let old = left_back t.entry dir k d w.0 j (name_spelling n) (sym (at w.0) ∙ w.1) in
          inl (
            (w.0, old.1),
            λ same.
                let here : t.entry dir w.0 ≡ Leads j (name_spelling name) = ap (λ (x : ℕ). t.entry x w.0) (sym same.0)
                ∙ old.1 ∙ ap (λ (x : List ℕ). Leads j (name_spelling x)) same.1 in
                old.0 same.0 (sound.names.distinct dir w.0 k j i (name_spelling name) here there),
          ),
      λ w. elim w [
        | inl old ↦ (
          old.0.0,
          at old.0.0 ∙ changed_twice-other t.entry dir k Free d old.0.0 (λ same_dir same_place.
              let both : Leads j (name_spelling n) ≡ Leads i (name_spelling name) =
              sym old.0.1 ∙ ap (λ (x : ℕ). t.entry x old.0.0) same_dir ∙ ap (t.entry dir) same_place ∙ there in
              let spelling : name_spelling n ≡ name_spelling name = cc in
              let inode : j ≡ i = cc in
              old.1 (same_dir, name_spelling-injective n name spelling, inode)) ∙ old.0.1,
        )
        | inr g ↦ absurd g
      ],
    )

-- ---- inodes

inodes-gained : (t : Tables) (i kind : ℕ) (new : Tables) → IsFresh t i kind → new.kind ≡ with_value t.kind i kind
    → new.links ≡ with_value t.links i 1
    → (j k l : ℕ) → (InodeIn new j k l ↔ ((InodeIn t j k l × (¬ ⊥)) ⊎ ((j ≡ i) × (k ≡ kind) × (l ≡ 1))))
inodes-gained t i kind new fresh kind_is links_is j k l =
    let kinds : new.kind j ≡ with_value t.kind i kind j = ap (λ (f : ℕ → ℕ). f j) kind_is in
    let links : new.links j ≡ with_value t.links i 1 j = ap (λ (f : ℕ → ℕ). f j) links_is in
    let old_kind : j ≢ i → new.kind j ≡ t.kind j = λ n. kinds ∙ with_value-other t.kind i kind j n in
    let old_links : j ≢ i → new.links j ≡ t.links j = λ n. links ∙ with_value-other t.links i 1 j n in
    let own_kind : j ≡ i → new.kind j ≡ kind = λ e. kinds ∙ ap (with_value t.kind i kind) e
    ∙ with_value-same t.kind i kind in
    let own_links : j ≡ i → new.links j ≡ 1 = λ e. links ∙ ap (with_value t.links i 1) e
    ∙ with_value-same t.links i 1 in
    let some = fresh.a_kind.0 in (
      λ w. elim (cases_eq j i) [
        | inl e ↦ inr (e, sym w.0 ∙ own_kind e, sym w.1 ∙ own_links e)
        | inr n ↦ inl ((sym (old_kind n) ∙ w.0, sym (old_links n) ∙ w.1, w.2), λ z. z)
      ],
      λ w. elim w [
        | inl old ↦
            let n = not-fresh t i kind j fresh (λ z. old.0.2 (sym old.0.0 ∙ z)) in
            (old_kind n ∙ old.0.0, old_links n ∙ old.0.1, old.0.2)
        | inr g ↦ (own_kind g.0 ∙ sym g.1, own_links g.0 ∙ sym g.2, λ z. let a = g.1 in omega arith)
      ],
    )

inodes-tables_after_link : (t : Tables) (i old new_links : ℕ) (new : Tables) → t.kind i ≡ 1 → t.links i ≡ old
    → new.kind ≡ t.kind → new.links ≡ with_value t.links i new_links
    → (j k l : ℕ) → (InodeIn new j k l ↔ ((InodeIn t j k l × (¬ ((j ≡ i) × (k ≡ 1) × (l ≡ old))))
    ⊎ ((j ≡ i) × (k ≡ 1) × (l ≡ new_links))))
inodes-tables_after_link t i old new_links new one had kind_is links_is j k l =
    let kinds : new.kind j ≡ t.kind j = ap (λ (f : ℕ → ℕ). f j) kind_is in
    let links : new.links j ≡ with_value t.links i new_links j = ap (λ (f : ℕ → ℕ). f j) links_is in (
      λ w. elim (cases_eq j i) [
        | inl e ↦ inr (
          e,
          sym w.0 ∙ kinds ∙ ap t.kind e ∙ one,
          sym w.1 ∙ links ∙ ap (with_value t.links i new_links) e
              ∙ with_value-same t.links i new_links,
        )
        | inr n ↦ inl (
          (sym kinds ∙ w.0, sym (with_value-other t.links i new_links j n) ∙ sym links ∙ w.1, w.2),
          λ same. n same.0,
        )
      ],
      λ w. elim w [
        | inl h ↦
            let n : j ≢ i = λ e. h.1 (e, sym h.0.0 ∙ ap t.kind e ∙ one, sym h.0.1 ∙ ap t.links e ∙ had) in
            (kinds ∙ h.0.0, links ∙ with_value-other t.links i new_links j n ∙ h.0.1, h.0.2)
        | inr g ↦ (
          kinds ∙ ap t.kind g.0 ∙ one ∙ sym g.1,
          links ∙ ap (with_value t.links i new_links) g.0
              ∙ with_value-same t.links i new_links ∙ sym g.2,
          λ z. let a = g.1 in omega arith,
        )
      ],
    )

inodes-lost : (t : Tables) (i : ℕ) (new : Tables) → new.kind ≡ with_value t.kind i 0
    → new.links ≡ with_value t.links i 0
    → (j k l : ℕ) → (InodeIn new j k l ↔ ((InodeIn t j k l × (¬ (j ≡ i))) ⊎ ⊥))
inodes-lost t i new kind_is links_is j k l =
    let kinds : new.kind j ≡ with_value t.kind i 0 j = ap (λ (f : ℕ → ℕ). f j) kind_is in
    let links : new.links j ≡ with_value t.links i 0 j = ap (λ (f : ℕ → ℕ). f j) links_is in (
      λ w.
          let n : j ≢ i = λ e. w.2 (sym w.0 ∙ kinds ∙ ap (with_value t.kind i 0) e ∙ with_value-same t.kind i 0) in
          inl (
            (
              sym (with_value-other t.kind i 0 j n) ∙ sym kinds ∙ w.0,
              sym (with_value-other t.links i 0 j n)
                  ∙ sym links ∙ w.1,
              w.2,
            ),
            n,
          ),
      λ w. elim w [
        | inl old ↦ (
          kinds ∙ with_value-other t.kind i 0 j old.1 ∙ old.0.0,
          links ∙ with_value-other t.links i 0 j old.1
              ∙ old.0.1,
          old.0.2,
        )
        | inr g ↦ absurd g
      ],
    )

-- ---- pointers and blocks

pointers-new_file : (t : Tables) (i : ℕ) → IsFresh t i 1 → (j s b : ℕ)
    → Unchanged (HasPointer t.kind t.pointer j s b) (HasPointer (with_value t.kind i 1)
    (with_value t.pointer i (λ _. 0)) j s b)
pointers-new_file t i fresh j s b =
    let row : (n : j ≢ i) → with_value t.pointer i (λ _. 0) j s ≡ t.pointer j s =
    λ n. ap (λ (f : ℕ → ℕ). f s) (with_value-other t.pointer i (λ _. 0) j n) in
    let kind : (n : j ≢ i) → with_value t.kind i 1 j ≡ t.kind j = λ n. with_value-other t.kind i 1 j n in (
      λ w. elim (cases_eq j i) [
        | inl e ↦ absurd (w.2 (sym w.1 ∙ ap (λ (x : ℕ). with_value t.pointer i (λ _. 0) x s) e
            ∙ ap (λ (f : ℕ → ℕ). f s) (with_value-same t.pointer i (λ _. 0))))
        | inr n ↦ inl (((λ z. w.0 (kind n ∙ z)), sym (row n) ∙ w.1, w.2), λ z. z)
      ],
      λ w. elim w [
        | inl old ↦ let n = not-fresh t i 1 j fresh old.0.0 in
            ((λ z. old.0.0 (sym (kind n) ∙ z)), row n ∙ old.0.1, old.0.2)
        | inr g ↦ absurd g
      ],
    )

pointers-gained : (t : Tables) (kind' : ℕ → ℕ) (pointer' : ℕ → ℕ → ℕ) (mark : Mark) (i s b : ℕ)
    → GainsBlock t kind' pointer' mark i s b
    → (j r c : ℕ) → (HasPointer kind' pointer' j r c ↔ ((HasPointer t.kind t.pointer j r c × (¬ ⊥))
    ⊎ ((j ≡ i) × (r ≡ s) × (c ≡ b))))
pointers-gained t kind' pointer' mark i s b g j r c = (
  λ w. elim (pointer-back t kind' pointer' mark i s b g j r c w) [ inl old ↦ inl (old, λ z. z) | inr new ↦ inr new ],
  λ w. elim w [
    | inl old ↦ pointer-kept t kind' pointer' mark i s b g j r c old.0
    | inr new ↦ rw (new.0, new.1, new.2) (pointer-gained t kind' pointer' mark i s b g)
  ],
)

pointers-lost : (t : Tables) (i : ℕ) → (j s b : ℕ) → (HasPointer (with_value t.kind i 0)
    (with_value t.pointer i (λ _. 0)) j s b ↔ ((HasPointer t.kind t.pointer j s b × (¬ (j ≡ i))) ⊎ ⊥))
pointers-lost t i j s b =
    let row : (n : j ≢ i) → with_value t.pointer i (λ _. 0) j s ≡ t.pointer j s =
    λ n. ap (λ (f : ℕ → ℕ). f s) (with_value-other t.pointer i (λ _. 0) j n) in
    let kind : (n : j ≢ i) → with_value t.kind i 0 j ≡ t.kind j = λ n. with_value-other t.kind i 0 j n in (
      λ w.
          let n : j ≢ i = λ e. w.0 (ap (with_value t.kind i 0) e ∙ with_value-same t.kind i 0) in
          inl (((λ z. w.0 (kind n ∙ z)), sym (row n) ∙ w.1, w.2), n),
      λ w. elim w [
        | inl old ↦ ((λ z. old.0.0 (sym (kind old.1) ∙ z)), row old.1 ∙ old.0.1, old.0.2)
        | inr g ↦ absurd g
      ],
    )

used-gained : (t : Tables) (b : ℕ) → 4 + t.journal ≤ b → (c : ℕ)
    → (((4 + t.journal ≤ c) × (with_value t.used b true c ≡ true)) ↔ ((UsedIn t c × (¬ ⊥)) ⊎ (c ≡ b)))
used-gained t b low c = (
  λ w. elim (cases_eq c b) [
    | inl e ↦ inr e
    | inr n ↦ inl
        ((w.0, sym (with_value-other t.used b true c n) ∙ w.1), λ z. z)
  ],
  λ w. elim w [
    | inl old ↦ (
      old.0.0,
      elim (cases_eq c b) [
        | inl e ↦ rw (eq-eqb c b e) refl
        | inr n ↦ with_value-other t.used b true c n ∙ old.0.1
      ],
    )
    | inr e ↦ (
      subst (λ (x : ℕ). 4 + t.journal ≤ x) (sym e) low,
      ap (with_value t.used b true) e
          ∙ with_value-same t.used b true,
    )
  ],
)

used-lost : (t : Tables) (i : ℕ) (used : ℕ → Bool) → FreesBlocks t.kind t.pointer t.used used i
    → (c : ℕ) → (((4 + t.journal ≤ c) × (used c ≡ true)) ↔ ((UsedIn t c
    × (¬ ((s : ℕ) × HasPointer t.kind t.pointer i s c))) ⊎ ⊥))
used-lost t i used frees c = (
  λ w. let old = frees.cleared c w.1 in inl ((w.0, old.0), λ h. old.1 h.0 h.1),
  λ w. elim w [ inl old ↦ (old.0.0, frees.kept c old.0.1 (λ s h. old.1 (s, h))) | inr g ↦ absurd g ],
)

-- ---- the operations

pub tables_after_create-becomes : (t : Tables) (dir k i : ℕ) (name : List ℕ) → CanCreate t dir k i name
    → Becomes (view t) (view (tables_after_create t dir k i name)) (with_inode (with_name nothing dir name i) i 1 1)
    nothing
tables_after_create-becomes t dir k i name can = record {
  names = names-gained t dir k i name (tables_after_create t dir k i name) can.place.free refl;
  inodes = inodes-gained t i 1 (tables_after_create t dir k i name) can.fresh refl refl;
  pointers = pointers-new_file t i can.fresh;
  used_blocks = λ b. unchanged (UsedIn t b);
}

pub tables_after_write-becomes : (t : Tables) (i s b : ℕ) → Sound t → CanGrow t i s b
    → Becomes (view t) (view (tables_after_write t i s b)) (with_block nothing i s b) nothing
tables_after_write-becomes t i s b sound can = record {
  names = λ d n j. unchanged (NameIn t d n j);
  inodes = λ j k l. unchanged (InodeIn t j k l);
  pointers = pointers-gained t _ _ (FileOf i) i s b (tables_after_write-gains t i s b sound can);
  used_blocks = used-gained t b can.low;
}

pub tables_after_link-becomes : (t : Tables) (dir k i : ℕ) (name : List ℕ) → CanLink t dir k i name
    → Becomes (view t) (view (tables_after_link t dir k i name))
    (with_inode (with_name nothing dir name i) i 1 (t.links i + 1)) (with_inode nothing i 1 (t.links i))
tables_after_link-becomes t dir k i name can = record {
  names = names-gained t dir k i name (tables_after_link t dir k i name) can.place.free refl;
  inodes = inodes-tables_after_link t i (t.links i) (t.links i + 1) (tables_after_link t dir k i name) can.file refl
      refl refl;
  pointers = λ j s b. unchanged (HasPointer t.kind t.pointer j s b);
  used_blocks = λ b. unchanged (UsedIn t b);
}

pub tables_after_unlink-becomes : (t : Tables) (dir k i : ℕ) (name : List ℕ) (left : ℕ) → Sound t
    → CanUnlink t dir k i (name_spelling name) left
    → Becomes (view t) (view (tables_after_unlink t dir k i left)) (with_inode nothing i 1 left)
    (with_inode (with_name nothing dir name i) i 1 (left + 1))
tables_after_unlink-becomes t dir k i name left sound can = record {
  names = names-lost t dir k i name (tables_after_unlink t dir k i left) sound can.there refl;
  inodes = inodes-tables_after_link t i (left + 1) left (tables_after_unlink t dir k i left) can.file can.links refl
      refl;
  pointers = λ j s b. unchanged (HasPointer t.kind t.pointer j s b);
  used_blocks = λ b. unchanged (UsedIn t b);
}

pub tables_after_removal-becomes : (t : Tables) (dir k i : ℕ) (name : List ℕ) (used : ℕ → Bool) (mark : ℕ → Mark)
    → Sound t → CanRemove t dir k i (name_spelling name) used mark
    → Becomes (view t) (view (tables_after_removal t dir k i used mark)) nothing
    (with_all_of (with_name nothing dir name i) (view t) i)
tables_after_removal-becomes t dir k i name used mark sound can = record {
  names = names-lost t dir k i name (tables_after_removal t dir k i used mark) sound can.there refl;
  inodes = inodes-lost t i (tables_after_removal t dir k i used mark) refl refl;
  pointers = pointers-lost t i;
  used_blocks = used-lost t i used can.frees;
}

pub tables_after_mkdir-becomes : (t : Tables) (dir k i b : ℕ) (name : List ℕ) → Sound t → CanMake t dir k i b name
    → Becomes (view t) (view (tables_after_mkdir t dir k i b name))
    (with_block (with_inode (with_name nothing dir name i) i 2 1) i 0 b) nothing
tables_after_mkdir-becomes t dir k i b name sound can = record {
  names = names-gained t dir k i name (tables_after_mkdir t dir k i b name) can.place.free refl;
  inodes = inodes-gained t i 2 (tables_after_mkdir t dir k i b name) can.fresh refl refl;
  pointers = pointers-gained t _ _ (DirectoryOf i) i 0 b (tables_after_mkdir-gains t dir k i b name sound can);
  used_blocks = used-gained t b can.low;
}

-- the view stays
pub tables-same_view : (t : Tables) → Becomes (view t) (view t) nothing nothing
tables-same_view t = record {
  names = λ d n j. unchanged (NameIn t d n j);
  inodes = λ j k l. unchanged (InodeIn t j k l);
  pointers = λ j s b. unchanged (HasPointer t.kind t.pointer j s b);
  used_blocks = λ b. unchanged (UsedIn t b);
}

pub tables_after_truncate-becomes : (t : Tables) (i : ℕ) (used : ℕ → Bool) → CanCut t i used
    → Becomes (view t) (view (tables_after_truncate t i used)) nothing (with_blocks_of nothing (view t) i)
tables_after_truncate-becomes t i used can = record {
  names = λ d n j. unchanged (NameIn t d n j);
  inodes = λ j k l. unchanged (InodeIn t j k l);
  pointers = λ j s b.
      let row : (n : j ≢ i) → with_value t.pointer i (λ _. 0) j s ≡ t.pointer j s =
      λ n. ap (λ (f : ℕ → ℕ). f s) (with_value-other t.pointer i (λ _. 0) j n) in
      let none : j ≡ i → with_value t.pointer i (λ _. 0) j s ≡ 0 =
      λ e. ap (λ (f : ℕ → ℕ). f s) (ap (with_value t.pointer i (λ _. 0)) e ∙ with_value-same t.pointer i (λ _. 0)) in (
        λ w. let n : j ≢ i = λ e. w.2 (sym w.1 ∙ none e) in inl ((w.0, sym (row n) ∙ w.1, w.2), n),
        λ w. elim w [ inl old ↦ (old.0.0, row old.1 ∙ old.0.1, old.0.2) | inr g ↦ absurd g ],
      );
  used_blocks = used-lost t i used can.frees;
}

-- ---- two steps in a row

-- what is lost first and then what is lost and gained
lost-then : {A B C L M G : Type 0} → (B ↔ ((A × (¬ L)) ⊎ ⊥)) → (C ↔ ((B × (¬ M)) ⊎ G)) → (C ↔ ((A × (¬ (M ⊎ L))) ⊎ G))
lost-then first second = (
  λ c. elim (second.0 c) [
    | inl h ↦ elim (first.0 h.0) [
      | inl old ↦ inl (old.0, λ l. elim l [ inl m ↦ h.1 m | inr n ↦ old.1 n ])
      | inr none ↦ absurd none
    ]
    | inr g ↦ inr g
  ],
  λ h. elim h [
    | inl old ↦ second.1 (inl (first.1 (inl (old.0, λ l. old.1 (inr l))), λ m. old.1 (inl m)))
    | inr g ↦ second.1 (inr g)
  ],
)

-- what is lost and gained, and then nothing more
then-same : {A B C L G : Type 0} → (B ↔ ((A × (¬ L)) ⊎ G)) → Unchanged B C → (C ↔ ((A × (¬ L)) ⊎ G))
then-same first second = (
  λ c. elim (second.0 c) [ inl h ↦ first.0 h.0 | inr none ↦ absurd none ],
  λ h. second.1 (inl (first.1 h, λ z. z)),
)

-- the other file loses a name, and then a file with an old name gets that name
pub replaced-one : (old middle new : View) (old_dir : ℕ) (old_name : List ℕ) (target dir : ℕ) (name : List ℕ)
    (other left : ℕ)
    → Becomes old middle (with_inode nothing other 1 left) (with_inode (with_name nothing dir name other) other 1
    (left + 1))
    → Becomes middle new (with_name nothing dir name target) (with_name nothing old_dir old_name target)
    → Becomes old new (with_inode (with_name nothing dir name target) other 1 left)
    (with_inode (names_replaced old_dir old_name target dir name other) other 1 (left + 1))
replaced-one old middle new old_dir old_name target dir name other left first second = record {
  names = λ d n j. lost-then (first.names d n j) (second.names d n j);
  inodes = λ j k l. then-same (first.inodes j k l) (second.inodes j k l);
  pointers = λ j s b. then-same (first.pointers j s b) (second.pointers j s b);
  used_blocks = λ b. then-same (first.used_blocks b) (second.used_blocks b);
}

pub replaced-last : (base old middle new : View) (old_dir : ℕ) (old_name : List ℕ) (target dir : ℕ) (name : List ℕ)
    (other : ℕ)
    → Becomes old middle nothing (with_all_of (with_name nothing dir name other) base other)
    → Becomes middle new (with_name nothing dir name target) (with_name nothing old_dir old_name target)
    → Becomes old new (with_name nothing dir name target)
    (with_all_of (names_replaced old_dir old_name target dir name other) base other)
replaced-last base old middle new old_dir old_name target dir name other first second = record {
  names = λ d n j. lost-then (first.names d n j) (second.names d n j);
  inodes = λ j k l. then-same (first.inodes j k l) (second.inodes j k l);
  pointers = λ j s b. then-same (first.pointers j s b) (second.pointers j s b);
  used_blocks = λ b. then-same (first.used_blocks b) (second.used_blocks b);
}

-- ---- a file with another name: one more, then one less

pub with_value-back : (f : ℕ → ℕ) (i v : ℕ) → with_value (with_value f i v) i (f i) ≡ f
with_value-back f i v = fun_ext (λ j. elim (cases_eq j i) [
  | inl e ↦ rw (eq-eqb j i e) (ap f (sym e))
  | inr n ↦ rw (ne_eqb j i n) refl
])

abbrev pub tables_after_rename : Tables → ℕ → ℕ → ℕ → ℕ → ℕ → List ℕ → Tables
tables_after_rename t old_dir old_k dir k i name = tables_after_unlink (tables_after_link t dir k i name) old_dir old_k
    i (t.links i)

pub tables_after_rename-becomes : (t : Tables) (old_dir old_k dir k i : ℕ) (old_name name : List ℕ)
    → Sound (tables_after_link t dir k i name) → CanLink t dir k i name
    → t.entry old_dir old_k ≡ Leads i (name_spelling old_name)
    → Becomes (view t) (view (tables_after_rename t old_dir old_k dir k i name)) (with_name nothing dir name i)
    (with_name nothing old_dir old_name i)
tables_after_rename-becomes t old_dir old_k dir k i old_name name sound can there =
    let middle = tables_after_link t dir k i name in
    let new = tables_after_rename t old_dir old_k dir k i name in
    let links : new.links ≡ t.links = with_value-back t.links i (t.links i + 1) in
    let stays : middle.entry old_dir old_k ≡ Leads i (name_spelling old_name) =
    entry_kept t.entry dir k (Leads i (name_spelling name)) old_dir old_k i (name_spelling old_name) can.place.free
    there in
    let gain = names-gained t dir k i name middle can.place.free refl in
    let lose = names-lost middle old_dir old_k i old_name new sound stays refl in
    record {
      names = λ d n j. (
        λ w. elim ((lose d n j).0 w) [
          | inl h ↦ elim ((gain d n j).0 h.0) [ inl old ↦ inl (old.0, h.1) | inr g ↦ inr g ]
          | inr g ↦ absurd g
        ],
        λ w. elim w [
          | inl h ↦ (lose d n j).1 (inl ((gain d n j).1 (inl (h.0, λ z. z)), h.1))
          | inr g ↦ (lose d n j).1 (inl (
            (gain d n j).1 (inr g),
            λ old.
                can.place.absent old_k i (ap (λ (x : ℕ). t.entry x old_k) (sym g.0 ∙ old.0) ∙ there
                ∙ ap (λ (x : List ℕ). Leads i (name_spelling x)) (sym old.1 ∙ g.1)),
          ))
        ],
      );
      inodes = λ j k' l. subst (λ (f : ℕ → ℕ). Unchanged (InodeIn t j k' l) ((t.kind j ≡ k') × (f j ≡ l) × (k' ≢ 0)))
          (sym links) (unchanged (InodeIn t j k' l));
      pointers = λ j s b. unchanged (HasPointer t.kind t.pointer j s b);
      used_blocks = λ b. unchanged (UsedIn t b);
    }
