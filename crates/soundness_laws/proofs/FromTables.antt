-- A disk with sound tables is sound.
use Rattle.std.proofs.Common.{◌≡◌, ◌≢◌, ℕ, zero, suc, ◌+◌, ◌<◌, ◌≤◌, ◌⊎◌, ◌↔◌, inl, inr, Bool, true, false, ◌&&◌, not}
use Rattle.std.proofs.Common.{eqb, ltb, length, arith, refl, sym, ◌∙◌, ap, subst}
use Rattle.std.proofs.lemmas.Bool.{cases_eq, cases_lt, eq-eqb, ne_eqb, eqb-true, lt-ltb, le-ltb, le-leb}
use Rattle.std.proofs.lemmas.Bool.Decides.{nat_tests}
use Rattle.crash_model.specs.Disk.{Disk, IsDisk, byte}
use Rattle.crash_model.specs.Layout.{kind_of, links_of, pointer_of, map_of, is_data, is_live, is_entry, is_pointer}
use Rattle.crash_model.specs.Layout.{target_of, spelling_of}
use Rattle.crash_model.specs.Faults.{IsClean, is_tame, is_right_mark, names_block, namers, entries_to}
use Rattle.crash_model.specs.View.{HasPointer}
use Rattle.crash_model.specs.Sound.{IsSound, ReachedIn}
use Rattle.crash_model.proofs.Clean.{no_fault_clean}
use Rattle.crash_model.specs.Generations.{generation_of, mark_generation}
use Rattle.soundness_laws.proofs.ByTables.{current-parts}
use Rattle.soundness_laws.specs.Tables.{tables_of, mark_at, is_current, HasPointer as PointerIn, ReachedIn as ReachedBy}
use Rattle.soundness_laws.specs.Tables.{count_to}
use Rattle.soundness_laws.specs.Tables.{SoundNames, Sound}
use Rattle.soundness_laws.specs.Tables.Place.{Leads}
use Rattle.soundness_laws.specs.Tables.Mark.{Plain, FileOf, DirectoryOf}
use Rattle.soundness_laws.proofs.Places.{one_if, sum_below-one_pair}
use Rattle.soundness_laws.proofs.Counts.{count_to-none}
use Rattle.soundness_laws.proofs.ByTables.{kind-at, pointer-at, entry-at, live-at, counts-by_tables, mark_directory}
use Rattle.soundness_laws.proofs.Views.{links-at, used-at, used-below, place-leads, same-view}
use Rattle.soundness_laws.proofs.ToTables.{namers-count, entries-count}

-- ---- what the bytes say, said of the tables

pub entry-in : (d : Disk) (dir k : ℕ) → dir < 16 → k < 10 → is_entry d dir k ≡ true
    → (tables_of d).entry dir k ≡ Leads (target_of d dir k) (spelling_of d dir k)
entry-in d dir k in_dir in_place e = entry-at d dir k in_dir in_place ∙ place-leads d dir k e

pub pointer-in : (d : Disk) (i s : ℕ) → s < 4 → is_pointer d i s ≡ true
    → PointerIn (tables_of d).kind (tables_of d).pointer i s (pointer_of d i s)
pointer-in d i s small e = ((same-view d).pointers i s (pointer_of d i s)).0
    (record { within = small; used = e; block_is = refl })

pub live-in : (d : Disk) (i : ℕ) → is_live d i ≡ true → (i < 16) × ((tables_of d).kind i ≢ 0)
live-in d i e =
    let less : i < 16 = grind (arith, nat_tests) in
    let some : kind_of d i ≢ 0 = grind (arith, nat_tests) in
    (less, λ z. some (sym (kind-at d i less) ∙ z))

and-parts : (a b : Bool) → (a && b) ≡ true → (a ≡ true) × (b ≡ true)
and-parts true b e = (refl, e)
and-parts false b e = cc

-- a test holds nowhere where its first part says that the second does not
without : (a b : Bool) → (a ≡ true → b ≡ false) → (a && b) ≡ false
without true b h = h refl
without false b h = refl

mark_file : (d : Disk) (b i : ℕ) → (tables_of d).mark b ≡ FileOf i → (is_current d b ≡ true) × (byte d b 0 ≡ 0x46)
    × (byte d b 1 ≡ i)
unfolding tables_of
mark_file d b i e = go (is_current d b) refl (byte d b 0) (byte d b 1) e
  where
    go : (inside : Bool) → is_current d b ≡ inside → (x y : ℕ) → mark_at inside x y ≡ FileOf i → (inside ≡ true)
        × (x ≡ 0x46) × (y ≡ i)
    go false p x y r = cc
    go true p x y r = elim (cases_eq x 0x46) [
      | inl file ↦ let same : FileOf y ≡ FileOf i = rw (eq-eqb x 0x46 file) at r in (refl, file, cc)
      | inr other ↦ elim (cases_eq x 0x44) [
        | inl dir ↦ absurd (let no_file : DirectoryOf y ≡ FileOf i = rw (ne_eqb x 0x46 other, eq-eqb x 0x44 dir) at r in
            cc)
        | inr neither ↦ absurd (let no_file : Plain ≡ FileOf i = rw (ne_eqb x 0x46 other, ne_eqb x 0x44 neither) at r in
            cc)
      ]
    ]

mark_dir : (d : Disk) (b i : ℕ) → (tables_of d).mark b ≡ DirectoryOf i → (is_current d b ≡ true) × (byte d b 0 ≡ 0x44)
    × (byte d b 1 ≡ i)
unfolding tables_of
mark_dir d b i e = mark_directory d b i e

pub area : (d : Disk) (b : ℕ) → (4 + (tables_of d).journal ≤ b) × (b < (tables_of d).blocks) → is_data d b ≡ true
unfolding tables_of
area d b h = rw (le-leb (4 + d.journal) b h.0, lt-ltb b d.blocks h.1) refl

-- ---- clean

clean-tables : (d : Disk) → IsDisk d → Sound (tables_of d) → IsClean d
clean-tables d disk sound =
    let t = tables_of d in
    let tame_parts : (i s : ℕ) → is_tame d i s ≡ true → (is_pointer d i s ≡ true)
    × (is_data d (pointer_of d i s) ≡ true) = λ i s e. and-parts (is_pointer d i s) (is_data d (pointer_of d i s))
    e in
    no_fault_clean d record {
      no_dangling = λ dir in_dir k in_place. without (is_entry d dir k) (not (is_live d (target_of d dir k))) (λ e.
          let live = live-at d (target_of d dir k) (sound.names.no_dangling dir k (target_of d dir k)
          (spelling_of d dir k) (entry-in d dir k in_dir in_place e)) in
          ap not live.1);
      no_twice = λ b below.
          let few : length (namers d b) ≤ 1 = subst (λ (x : ℕ). x ≤ 1) (sym (namers-count d b))
          (sum_below-one_pair 16 4 (λ i s. one_if (names_block d i s b))
          (λ i s. at_most (names_block d i s b))
          (λ i s j r in_i in_j in_s in_r p q.
          let one = naming i s b in_s (held (names_block d i s b) p) in
          let two = naming j r b in_r (held (names_block d j r b) q) in
          sound.blocks.once b i s j r one two)) in
          le-ltb 1 (length (namers d b)) few;
      no_unwritten = λ i in_i s in_s. without (is_tame d i s) _ (λ e.
          let p = pointer-in d i s in_s (tame_parts i s e).0 in
          let kind = kind-at d i in_i in
          let small = sound.inodes.kinds i in
          let live = p.0 in
          elim (cases_eq (t.kind i) 1) [
            | inl one ↦
                let m = mark_file d (pointer_of d i s) i (sound.blocks.file_blocks i s (pointer_of d i s) p one) in
                right (kind_of d i) (byte d (pointer_of d i s) 0) (byte d (pointer_of d i s) 1)
                (mark_generation d (pointer_of d i s)) (generation_of d i) i (inl (sym kind ∙ one, m.1)) m.2
                (current-parts d (pointer_of d i s) i m.0 m.2).1
            | inr other ↦
                let two : t.kind i ≡ 2 = pick (t.kind i) live other small in
                let m = mark_dir d (pointer_of d i s) i (sound.blocks.directory_blocks i s (pointer_of d i s) p two) in
                right (kind_of d i) (byte d (pointer_of d i s) 0) (byte d (pointer_of d i s) 1)
                (mark_generation d (pointer_of d i s)) (generation_of d i) i (inr (sym kind ∙ two, m.1)) m.2
                (current-parts d (pointer_of d i s) i m.0 m.2).1
          ]);
      no_low_links = λ i in_i. without (is_live d i) (ltb (links_of d i) (length (entries_to d i))) (λ e.
          let live = live-in d i e in
          let count = entries-count d i in
          elim (cases_eq i 0) [
            | inl root ↦
                let none : count_to t.entry i ≡ 0 = count_to-none t.entry i
                (λ dir k spelling at. sound.names.no_way_up dir k i spelling at root) in
                le-ltb (links_of d i) (length (entries_to d i)) (omega arith)
            | inr other ↦
                let counted = sound.counts.counted i other live.1 in
                let links = links-at d i in_i in
                le-ltb (links_of d i) (length (entries_to d i)) (omega arith)
          ]);
      no_marked_free = λ i in_i s in_s. without (is_tame d i s) (eqb (map_of d (pointer_of d i s)) 0) (λ e.
          let p = pointer-in d i s in_s (tame_parts i s e).0 in
          ne_eqb (map_of d (pointer_of d i s)) 0 (used-below d (pointer_of d i s)
          (sound.blocks.named_used i s (pointer_of d i s) p)).1);
      no_wild = λ i in_i s in_s. without (is_pointer d i s) (not (is_data d (pointer_of d i s))) (λ e.
          let p = pointer-in d i s in_s e in
          let own = area d (pointer_of d i s) (sound.blocks.in_data_area i s (pointer_of d i s) p) in
          ap not own);
    }
  where
    at_most : (b : Bool) → one_if b ≤ 1
    at_most true = omega arith
    at_most false = omega arith

    held : (b : Bool) → one_if b ≢ 0 → b ≡ true
    held true e = refl
    held false e = absurd (e refl)

    naming : (i s b : ℕ) → s < 4 → names_block d i s b ≡ true → PointerIn (tables_of d).kind (tables_of d).pointer i s b
    naming i s b small e =
        let both = and-parts (is_tame d i s) (eqb (pointer_of d i s) b) e in
        let p = pointer-in d i s small (and-parts (is_pointer d i s) (is_data d (pointer_of d i s)) both.0).0 in
        subst (λ (x : ℕ). PointerIn (tables_of d).kind (tables_of d).pointer i s x)
        (eqb-true (pointer_of d i s) b both.1) p

    right : (kind first second mark generation i : ℕ) → ((kind ≡ 1) × (first ≡ 0x46)) ⊎ ((kind ≡ 2) × (first ≡ 0x44))
        → second ≡ i → mark ≡ generation
        → not (is_right_mark kind first && (eqb second i && eqb mark generation)) ≡ false
    right kind first second mark generation i (inl h) e g =
        rw (eq-eqb kind 1 h.0, eq-eqb first 0x46 h.1, eq-eqb second i e, eq-eqb mark generation g) refl
    right kind first second mark generation i (inr h) e g = grind (arith, nat_tests, h.0, h.1)

    pick : (k : ℕ) → k ≢ 0 → k ≢ 1 → k < 3 → k ≡ 2
    pick k a b c = omega arith

-- ---- the rest

reached-in : (d : Disk) → SoundNames (tables_of d).kind (tables_of d).entry → (n i : ℕ)
    → ReachedBy (tables_of d).entry n i → ReachedIn d n i
reached-in d sound zero i r = r
reached-in d sound (suc n) i r =
    let w = sound.named r.0 r.1 i r.2 r.3 in
    (r.0, w.0, ((same-view d).names r.0 w.0 i).1 (r.1, r.3 ∙ ap (Leads i) w.2), reached-in d sound n r.0 r.4)

mapped : (d : Disk) → IsDisk d → Sound (tables_of d) → (b : ℕ) → b < d.blocks
    → ((map_of d b ≢ 0) ↔ ((b < 4 + d.journal) ⊎ ((i : ℕ) × (s : ℕ) × HasPointer d i s b)))
unfolding tables_of
mapped d disk sound b below =
    let t = tables_of d in
    let to : map_of d b ≢ 0 → t.used b ≡ true = λ some. used-at d b below ∙ rw (ne_eqb (map_of d b) 0 some) refl in
    let from : t.used b ≡ true → map_of d b ≢ 0 = λ u. (used-below d b u).1 in (
      λ some. elim (cases_lt b (4 + d.journal)) [
        | inl low ↦ inl low
        | inr high ↦ let w = sound.blocks.used_named b high (to some) in
            inr (w.0, w.1, ((same-view d).pointers w.0 w.1 b).1 w.2)
      ],
      λ h. elim h [
        | inl low ↦ from (sound.blocks.low_used b low)
        | inr w ↦ from (sound.blocks.named_used w.0 w.1 b (((same-view d).pointers w.0 w.1 b).0 w.2))
      ],
    )

root-block : (d : Disk) → Sound (tables_of d) → HasPointer d 0 0 (4 + d.journal)
unfolding tables_of
root-block d sound = ((same-view d).pointers 0 0 (4 + d.journal)).1
    ((λ z. let two = sound.inodes.root.0 in omega arith), sound.blocks.root_block, λ z. omega arith)

pub tables-sound : (d : Disk) → IsDisk d → Sound (tables_of d) → IsSound d
tables-sound d disk sound =
    let t = tables_of d in
    record {
      clean = clean-tables d disk sound;
      root = (
        ((same-view d).inodes 0 2 1).1 (sound.inodes.root.0, sound.inodes.root.1, λ z. omega arith),
        root-block d sound,
      );
      no_way_up = λ dir in_dir k in_place e. sound.names.no_way_up dir k (target_of d dir k) (spelling_of d dir k)
          (entry-in d dir k in_dir in_place e);
      kinds = λ i e.
          let live = live-in d i e in
          let kind = kind-at d i live.0 in
          let some = live.1 in
          let small = sound.inodes.kinds i in
          elim (cases_eq (kind_of d i) 1) [ inl one ↦ inl one | inr other ↦ inr (omega arith) ];
      directories = λ i below two.
          let kind : t.kind i ≡ 2 = kind-at d i below ∙ two in
          let o = sound.blocks.one_block i kind in (
            counts-by_tables d i below kind (sound.blocks.directory_blocks i 0 (t.pointer i 0)
                ((λ z. omega arith), refl, o.0) kind),
            λ s some small. sym (pointer-at d i s below small) ∙ o.1 s (λ z. omega arith),
          );
      packed = λ i below one s small none.
          sym (pointer-at d i (s + 1) below small) ∙ sound.blocks.packed i s (kind-at d i below ∙ one)
          (pointer-at d i s below (omega arith) ∙ none);
      named = λ dir in_dir k in_place e. sound.names.named dir k (target_of d dir k) (spelling_of d dir k)
          (entry-in d dir k in_dir in_place e);
      distinct = λ dir in_dir j k less in_place e f same.
          let here = entry-in d dir j in_dir (omega arith) e in
          let there = entry-in d dir k in_dir in_place f ∙ ap (Leads (target_of d dir k)) (sym same) in
          let both = sound.names.distinct dir j k (target_of d dir j) (target_of d dir k) (spelling_of d dir j) here
          there in
          omega arith;
      counted = λ i some e.
          let live = live-in d i e in
          entries-count d i ∙ sound.counts.counted i (λ z. omega arith) live.1 ∙ links-at d i live.0;
      one_name = λ i some below two. sym (links-at d i below) ∙ sound.inodes.one_name i (kind-at d i below ∙ two);
      few_names = λ i below one.
          let few = sound.inodes.few_names i (kind-at d i below ∙ one) in
          let links = links-at d i below in
          (omega (arith, few.0), omega (arith, few.1));
      reached = λ i e. let live = live-in d i e in let r = sound.names.reached i live.1 in
          (r.0, reached-in d sound.names r.0 i r.1);
      map = mapped d disk sound;
    }
