-- Each operation leaves sound tables sound.
use Rattle.std.proofs.Common.{◌≡◌, ◌≢◌, ℕ, ◌+◌, ◌<◌, ◌≤◌, inl, inr, List, Bool, false, arith, refl, sym, ◌∙◌, ap}
use Rattle.std.proofs.lemmas.Bool.{cases_eq}
use Rattle.crash_model.specs.Names.{IsName}
use Rattle.crash_model.specs.Plan.{name_spelling}
use Rattle.soundness_laws.specs.Tables.{Tables, with_value, with_place, tables_after_create, tables_after_write}
use Rattle.soundness_laws.specs.Tables.{tables_after_link, tables_after_unlink, tables_after_removal}
use Rattle.soundness_laws.specs.Tables.{tables_after_mkdir, tables_after_truncate, KeepsMarks, Mark, count_to}
use Rattle.soundness_laws.specs.Tables.{SoundNames}
use Rattle.soundness_laws.specs.Tables.{SoundCounts, Sound}
use Rattle.soundness_laws.specs.Tables.Place.{Free, Leads}
use Rattle.soundness_laws.specs.Tables.Mark.{FileOf, DirectoryOf}
use Rattle.soundness_laws.proofs.Sums.{with_value-same, with_value-other, changed_twice-same, changed_twice-row}
use Rattle.soundness_laws.proofs.Names.{names-gained, names-lost}
use Rattle.soundness_laws.proofs.Counts.{count_to-none, only_entry, other_entry, counts-gained, counts-lost}
use Rattle.soundness_laws.proofs.Inodes.{IsFresh, not-fresh, inodes-new, inodes-freed, inodes-tables_after_link}
use Rattle.soundness_laws.proofs.Blocks.{blocks-new_file, FreesBlocks, blocks-freed, blocks-cut, GainsBlock}
use Rattle.soundness_laws.proofs.Blocks.{blocks-gained}

-- ---- what a new name asks

pub record IsPlace (t : Tables) (dir k : ℕ) (name : List ℕ) : Type 0 where
  pub free : t.entry dir k ≡ Free
  pub in_place : k < 10
  pub parent : t.kind dir ≡ 2
  pub is_name : IsName name
  pub absent : (m j : ℕ) → t.entry dir m ≢ Leads j (name_spelling name)

pub parent-below : (t : Tables) (dir k : ℕ) (name : List ℕ) → Sound t → IsPlace t dir k name → dir < 16
parent-below t dir k name sound p = sound.inodes.below dir (λ z. let two = p.parent in omega arith)

-- a new inode gets a name
names-new : (t : Tables) (dir k i kind : ℕ) (name : List ℕ) → Sound t → IsPlace t dir k name → IsFresh t i kind
    → SoundNames (with_value t.kind i kind) (with_place t.entry dir k (Leads i (name_spelling name)))
names-new t dir k i kind name sound p fresh =
    let kinds : (j : ℕ) → j ≢ i → with_value t.kind i kind j ≡ t.kind j = λ j n. with_value-other t.kind i kind j n in
    let here : with_value t.kind i kind i ≡ kind = with_value-same t.kind i kind in
    let apart = not-fresh t i kind in
    let some = fresh.a_kind.0 in
    names-gained t.kind (with_value t.kind i kind) t.entry dir k i name sound.names (record {
      free = p.free;
      in_dir = parent-below t dir k name sound p;
      in_place = p.in_place;
      parent = p.parent;
      is_name = p.is_name;
      absent = p.absent;
      target = λ z. omega arith;
      not_root = λ z. apart 0 fresh (λ y. let two = sound.inodes.root.0 in omega arith) (sym z);
      kept = λ h l. kinds h (apart h fresh l);
      only = λ h l. elim (cases_eq h i) [ inl e ↦ inr e | inr n ↦ inl (λ z. l (kinds h n ∙ z)) ];
    })

counts-new : (t : Tables) (dir k i kind : ℕ) (name : List ℕ) → Sound t → IsPlace t dir k name → IsFresh t i kind
    → SoundCounts (with_value t.kind i kind) (with_value t.links i 1)
    (with_place t.entry dir k (Leads i (name_spelling name)))
counts-new t dir k i kind name sound p fresh =
    let none : count_to t.entry i ≡ 0 = count_to-none t.entry i
    (λ d m sp e. sound.names.no_dangling d m i sp e fresh.free) in
    counts-gained t.kind (with_value t.kind i kind) t.links (with_value t.links i 1) t.entry dir k i
    (name_spelling name) sound.counts (record {
      in_dir = parent-below t dir k name sound p;
      in_place = p.in_place;
      free = p.free;
      others = λ j n live. ((λ z. live (with_value-other t.kind i kind j n ∙ z)), with_value-other t.links i 1 j n);
      own = with_value-same t.links i 1 ∙ rw none refl;
    })

-- ---- create

pub record CanCreate (t : Tables) (dir k i : ℕ) (name : List ℕ) : Type 0 where
  pub place : IsPlace t dir k name
  pub fresh : IsFresh t i 1

pub tables_after_create-sound : (t : Tables) (dir k i : ℕ) (name : List ℕ) → Sound t → CanCreate t dir k i name
    → Sound (tables_after_create t dir k i name)
tables_after_create-sound t dir k i name sound can = record {
  blocks = blocks-new_file t i sound.blocks sound.inodes.root.0 can.fresh;
  inodes = inodes-new t i 1 sound.inodes can.fresh;
  names = names-new t dir k i 1 name sound can.place can.fresh;
  counts = counts-new t dir k i 1 name sound can.place can.fresh;
}

-- ---- mkdir

pub record CanMake (t : Tables) (dir k i b : ℕ) (name : List ℕ) : Type 0 where
  pub place : IsPlace t dir k name
  pub fresh : IsFresh t i 2
  pub free : t.used b ≡ false
  pub low : 4 + t.journal ≤ b
  pub high : b < t.blocks

-- the pointers of a new directory
pub made_pointer : (t : Tables) (i b : ℕ) → with_value (with_value t.pointer i (λ _. 0)) i
    (with_value (with_value t.pointer i (λ _. 0) i) 0 b) i ≡ with_value (λ _. 0) 0 b
made_pointer t i b = with_value-same (with_value t.pointer i (λ _. 0)) i
    (with_value (with_value t.pointer i (λ _. 0) i) 0 b) ∙ ap (λ (f : ℕ → ℕ). with_value f 0 b)
    (with_value-same t.pointer i (λ _. 0))

pub tables_after_mkdir-gains : (t : Tables) (dir k i b : ℕ) (name : List ℕ) → Sound t → CanMake t dir k i b name
    → GainsBlock t (tables_after_mkdir t dir k i b name).kind (tables_after_mkdir t dir k i b name).pointer
    (DirectoryOf i) i 0 b
tables_after_mkdir-gains t dir k i b name sound can =
    let kind = with_value t.kind i 2 in
    let pointer = (tables_after_mkdir t dir k i b name).pointer in
    let own : (r : ℕ) → pointer i r ≡ with_value (λ _. 0) 0 b r = λ r. ap (λ (f : ℕ → ℕ). f r) (made_pointer t i b) in
    let none : (r : ℕ) → r ≢ 0 → pointer i r ≡ 0 = λ r other. own r ∙ with_value-other (λ _. 0) 0 b r other in
    let free = can.fresh.free in
    record {
      kinds = λ j other. with_value-other t.kind i 2 j other;
      rows = λ j r other. ap (λ (f : ℕ → ℕ). f r) (with_value-other (with_value t.pointer i (λ _. 0)) i _ j other
          ∙ with_value-other t.pointer i (λ _. 0) j other);
      here = own 0 ∙ with_value-same (λ _. 0) 0 b;
      back = λ r other some. absurd (some (none r other));
      kept = λ r c h. absurd (h.0 free);
      live = λ z. let two : kind i ≡ 2 = with_value-same t.kind i 2 in omega arith;
      stays = λ live. absurd (live free);
      not_root = λ z. not-fresh t i 2 0 can.fresh (λ y. let two = sound.inodes.root.0 in omega arith) (sym z);
      slot = omega arith;
      free = can.free;
      low = can.low;
      high = can.high;
      file = λ one. absurd (let two : kind i ≡ 2 = with_value-same t.kind i 2 in omega arith);
      directory = λ _. (refl, refl, none);
    }

pub tables_after_mkdir-sound : (t : Tables) (dir k i b : ℕ) (name : List ℕ) → Sound t → CanMake t dir k i b name
    → Sound (tables_after_mkdir t dir k i b name)
tables_after_mkdir-sound t dir k i b name sound can = record {
  blocks = blocks-gained t _ _ (DirectoryOf i) i 0 b sound.blocks (tables_after_mkdir-gains t dir k i b name sound can);
  inodes = inodes-new t i 2 sound.inodes can.fresh;
  names = names-new t dir k i 2 name sound can.place can.fresh;
  counts = counts-new t dir k i 2 name sound can.place can.fresh;
}

-- ---- write

pub record CanGrow (t : Tables) (i s b : ℕ) : Type 0 where
  pub file : t.kind i ≡ 1
  pub slot : s < 4
  pub empty : t.pointer i s ≡ 0
  pub lower : (r : ℕ) → r < s → t.pointer i r ≢ 0
  pub free : t.used b ≡ false
  pub low : 4 + t.journal ≤ b
  pub high : b < t.blocks

pub tables_after_write-gains : (t : Tables) (i s b : ℕ) → Sound t → CanGrow t i s b
    → GainsBlock t t.kind (tables_after_write t i s b).pointer (FileOf i) i s b
tables_after_write-gains t i s b sound can =
    let pointer = (tables_after_write t i s b).pointer in
    let one = can.file in
    let live : t.kind i ≢ 0 = λ z. omega arith in
    let here : pointer i s ≡ b = changed_twice-same t.pointer i s b in
    let others : (r : ℕ) → r ≢ s → pointer i r ≡ t.pointer i r = λ r other. changed_twice-row t.pointer i s b r other in
    record {
      kinds = λ j other. refl;
      rows = λ j r other. ap (λ (f : ℕ → ℕ). f r) (with_value-other t.pointer i (with_value (t.pointer i) s b) j other);
      here = here;
      back = λ r other some. (live, sym (others r other), some);
      kept = λ r c h. others r (λ same. h.2 (sym h.1 ∙ ap (t.pointer i) same ∙ can.empty)) ∙ h.1;
      live = live;
      stays = λ _. refl;
      not_root = λ z. let two = sound.inodes.root.0 in let at : t.kind i ≡ t.kind 0 = ap t.kind z in omega arith;
      slot = can.slot;
      free = can.free;
      low = can.low;
      high = can.high;
      file = λ _. (
        refl,
        λ r none.
            let low = can.low in
            let other : r ≢ s = λ same. let at : b ≡ 0 = sym here ∙ ap (pointer i) (sym same) ∙ none in omega arith in
            let old : t.pointer i r ≡ 0 = sym (others r other) ∙ none in
            let next : r + 1 ≢ s = λ same. can.lower r (omega arith) old in
            others (r + 1) next ∙ sound.blocks.packed i r one old,
      );
      directory = λ two. absurd (omega arith);
    }

pub tables_after_write-sound : (t : Tables) (i s b : ℕ) → Sound t → CanGrow t i s b → Sound (tables_after_write t i s b)
tables_after_write-sound t i s b sound can = record {
  blocks = blocks-gained t _ _ (FileOf i) i s b sound.blocks (tables_after_write-gains t i s b sound can);
  inodes = sound.inodes;
  names = sound.names;
  counts = sound.counts;
}

-- ---- link

pub record CanLink (t : Tables) (dir k i : ℕ) (name : List ℕ) : Type 0 where
  pub place : IsPlace t dir k name
  pub file : t.kind i ≡ 1
  pub few : t.links i < 8

not_root : (t : Tables) (i : ℕ) → Sound t → t.kind i ≡ 1 → i ≢ 0
not_root t i sound one z = let two = sound.inodes.root.0 in let at : t.kind i ≡ t.kind 0 = ap t.kind z in omega arith

pub tables_after_link-sound : (t : Tables) (dir k i : ℕ) (name : List ℕ) → Sound t → CanLink t dir k i name
    → Sound (tables_after_link t dir k i name)
tables_after_link-sound t dir k i name sound can =
    let one = can.file in
    let root = not_root t i sound one in
    let live : t.kind i ≢ 0 = λ z. omega arith in
    let few = can.few in
    let counted : count_to t.entry i ≡ t.links i = sound.counts.counted i root live in
    record {
      blocks = sound.blocks;
      inodes = inodes-tables_after_link t i (t.links i + 1) sound.inodes one (omega arith, omega arith);
      names = names-gained t.kind t.kind t.entry dir k i name sound.names (record {
        free = can.place.free;
        in_dir = parent-below t dir k name sound can.place;
        in_place = can.place.in_place;
        parent = can.place.parent;
        is_name = can.place.is_name;
        absent = can.place.absent;
        target = live;
        not_root = root;
        kept = λ h l. refl;
        only = λ h l. inl l;
      });
      counts = counts-gained t.kind t.kind t.links (with_value t.links i (t.links i + 1)) t.entry dir k i
          (name_spelling name) sound.counts (record {
            in_dir = parent-below t dir k name sound can.place;
            in_place = can.place.in_place;
            free = can.place.free;
            others = λ j n l. (l, with_value-other t.links i (t.links i + 1) j n);
            own = with_value-same t.links i (t.links i + 1) ∙ rw counted refl;
          });
    }

-- ---- unlink

-- nothing is below a file
pub file-leaf : (t : Tables) (i : ℕ) → Sound t → t.kind i ≡ 1 → (m j : ℕ) (sp : List ℕ) → t.entry i m ≢ Leads j sp
file-leaf t i sound one m j sp e = let two = sound.names.parents i m j sp e in omega arith

pub record CanUnlink (t : Tables) (dir k i : ℕ) (spelling : List ℕ) (left : ℕ) : Type 0 where
  pub there : t.entry dir k ≡ Leads i spelling
  pub file : t.kind i ≡ 1
  pub some : 1 ≤ left
  pub links : t.links i ≡ left + 1

pub tables_after_unlink-sound : (t : Tables) (dir k i : ℕ) (spelling : List ℕ) (left : ℕ) → Sound t
    → CanUnlink t dir k i spelling left → Sound (tables_after_unlink t dir k i left)
tables_after_unlink-sound t dir k i spelling left sound can =
    let one = can.file in
    let links = can.links in
    let some = can.some in
    let root = not_root t i sound one in
    let live : t.kind i ≢ 0 = λ z. omega arith in
    let place = sound.names.places dir k i spelling can.there in
    let few = sound.inodes.few_names i one in
    let counted : count_to t.entry i ≡ t.links i = sound.counts.counted i root live in
    let other = other_entry t.entry dir k i spelling place.0 place.1 can.there (omega arith) in
    record {
      blocks = sound.blocks;
      inodes = inodes-tables_after_link t i left sound.inodes one (some, omega (arith, few.1));
      names = names-lost t.kind t.kind t.entry dir k i spelling sound.names (record {
        there = can.there;
        leaf = file-leaf t i sound one;
        kept = λ h n. refl;
        stays = λ _. other;
        goes = λ z. absurd (live z);
      });
      counts = counts-lost t.kind t.kind t.links (with_value t.links i left) t.entry dir k i spelling sound.counts
          (record {
            in_dir = place.0;
            in_place = place.1;
            there = can.there;
            others = λ j n l. (l, with_value-other t.links i left j n);
            own = λ _. ap (λ (x : ℕ). x + 1) (with_value-same t.links i left) ∙ sym links ∙ sym counted;
          });
    }

-- ---- the last name of an inode that nothing is below: a file, or an empty directory

pub record CanRemove (t : Tables) (dir k i : ℕ) (spelling : List ℕ) (used : ℕ → Bool) (mark : ℕ → Mark) : Type 0 where
  pub there : t.entry dir k ≡ Leads i spelling
  pub leaf : (m j : ℕ) (sp : List ℕ) → t.entry i m ≢ Leads j sp
  pub last : t.links i ≡ 1
  pub frees : FreesBlocks t.kind t.pointer t.used used i
  pub marks : KeepsMarks t.mark mark i

pub tables_after_removal-sound : (t : Tables) (dir k i : ℕ) (spelling : List ℕ) (used : ℕ → Bool) (mark : ℕ → Mark)
    → Sound t → CanRemove t dir k i spelling used mark → Sound (tables_after_removal t dir k i used mark)
tables_after_removal-sound t dir k i spelling used mark sound can =
    let place = sound.names.places dir k i spelling can.there in
    let live : t.kind i ≢ 0 = sound.names.no_dangling dir k i spelling can.there in
    let root : i ≢ 0 = sound.names.no_way_up dir k i spelling can.there in
    let one : count_to t.entry i ≡ 1 = sound.counts.counted i root live ∙ can.last in
    let kind = with_value t.kind i 0 in
    let gone : kind i ≡ 0 = with_value-same t.kind i 0 in
    let kinds : (j : ℕ) → j ≢ i → kind j ≡ t.kind j = λ j n. with_value-other t.kind i 0 j n in
    record {
      blocks = blocks-freed t i used mark sound.blocks root can.frees can.marks;
      inodes = inodes-freed t i sound.inodes root;
      names = names-lost t.kind kind t.entry dir k i spelling sound.names (record {
        there = can.there;
        leaf = can.leaf;
        kept = kinds;
        stays = λ stays. absurd (stays gone);
        goes = λ _ d m sp e. let at = sound.names.places d m i sp e in
            only_entry t.entry dir k d m i spelling sp place.0 place.1 at.0 at.1 can.there e one;
      });
      counts = counts-lost t.kind kind t.links (with_value t.links i 0) t.entry dir k i spelling sound.counts (record {
        in_dir = place.0;
        in_place = place.1;
        there = can.there;
        others = λ j n l. ((λ z. l (kinds j n ∙ z)), with_value-other t.links i 0 j n);
        own = λ stays. absurd (stays gone);
      });
    }

-- ---- truncate

pub record CanCut (t : Tables) (i : ℕ) (used : ℕ → Bool) : Type 0 where
  pub file : t.kind i ≡ 1
  pub frees : FreesBlocks t.kind t.pointer t.used used i

pub tables_after_truncate-sound : (t : Tables) (i : ℕ) (used : ℕ → Bool) → Sound t → CanCut t i used
    → Sound (tables_after_truncate t i used)
tables_after_truncate-sound t i used sound can = record {
  blocks = blocks-cut t i used sound.blocks (not_root t i sound can.file) can.file can.frees;
  inodes = sound.inodes;
  names = sound.names;
  counts = sound.counts;
}
