-- The tables of a sound disk are sound.
use Rattle.std.proofs.Common.{◌≡◌, ◌≢◌, ℕ, zero, suc, ◌+◌, ◌-◌, ◌<◌, ◌≤◌, inl, inr, List, Bool, true, false, ◌&&◌, not}
use Rattle.std.proofs.Common.{nat_lt}
use Rattle.std.proofs.Common.{eqb, length, arith, refl, sym, ◌∙◌, ap, subst}
use Rattle.std.proofs.lemmas.Bool.{lt-ltb, cases_eq, cases_order, eq-eqb, ne_eqb}
use Rattle.std.proofs.lemmas.Bool.Decides.{nat_tests}
use Rattle.crash_model.specs.Disk.{Disk, IsDisk, byte}
use Rattle.crash_model.specs.Generations.{generation_of, mark_generation}
use Rattle.soundness_laws.specs.Tables.{is_current}
use Rattle.crash_model.specs.Layout.{kind_of, links_of, pointer_of, map_of, is_data, is_live, is_entry, is_pointer}
use Rattle.crash_model.specs.Layout.{target_of, counts, entry_of, spelling_of}
use Rattle.crash_model.specs.Faults.{is_tame, is_wild, is_right_mark, names_block, each_slot, namers, leads_to}
use Rattle.crash_model.specs.Faults.{each_entry, entries_to}
use Rattle.crash_model.specs.Lists.{some_below, when}
use Rattle.crash_model.proofs.Clean.{clean_no_fault}
use Rattle.crash_model.specs.Plan.{name_spelling}
use Rattle.crash_model.specs.Sound.{IsSound, ReachedIn}
use Rattle.soundness_laws.specs.Tables.{Place, tables_of, place_of, place_at, HasPointer as PointerIn}
use Rattle.soundness_laws.specs.Tables.{ReachedIn as ReachedBy, leads, sum_below, count_to, SoundBlocks, SoundInodes}
use Rattle.soundness_laws.specs.Tables.{SoundNames, SoundCounts, Sound}
use Rattle.soundness_laws.specs.Tables.Place.{Leads}
use Rattle.soundness_laws.specs.Tables.Mark.{FileOf, DirectoryOf}
use Rattle.soundness_laws.proofs.Sums.{sum_below-same}
use Rattle.soundness_laws.proofs.Places.{one_if, length-some_below, length-each_below, sum_below-pairs}
use Rattle.soundness_laws.proofs.OnTables.{counts-parts}
use Rattle.soundness_laws.proofs.Puts.{data-block}
use Rattle.soundness_laws.proofs.ByTables.{kind-at, pointer-at, entry-at, live-at, EntryBytes, entry-bytes}
use Rattle.soundness_laws.proofs.Views.{links-at, used-at, used-below, pointer-below, entry-is, same-view}

-- ---- a pointer of the tables, said of the bytes

pub record PointerBytes (d : Disk) (i s b : ℕ) : Type 0 where
  pub in_inodes : i < 16
  pub in_slots : s < 4
  pub live : is_live d i ≡ true
  pub pointer : is_pointer d i s ≡ true
  pub is : pointer_of d i s ≡ b

pub pointer-bytes : (d : Disk) (i s b : ℕ) → PointerIn (tables_of d).kind (tables_of d).pointer i s b
    → PointerBytes d i s b
pointer-bytes d i s b h =
    let own = (same-view d).pointers i s b in
    let p = own.1 h in
    let live = live-at d i h.0 in
    record { in_inodes = live.0; in_slots = p.within; live = live.1; pointer = p.used; is = p.block_is }

-- ---- the faults that are not there

tame : (d : Disk) (i s : ℕ) → is_pointer d i s ≡ true → is_wild d i s ≡ false → is_data d (pointer_of d i s) ≡ true
tame d i s pointer wild = go (is_pointer d i s) (is_data d (pointer_of d i s)) pointer wild
  where
    go : (a b : Bool) → a ≡ true → (a && not b) ≡ false → b ≡ true
    go true true p q = refl
    go true false p q = cc
    go false b p q = cc

-- what the tests of a block's first three bytes say
pub record Marked (d : Disk) (b i mark : ℕ) : Type 0 where
  pub first : byte d b 0 ≡ mark
  pub owner : byte d b 1 ≡ i
  pub generation : mark_generation d b ≡ generation_of d i

marked : (tame : Bool) (kind first second mark generation i : ℕ)
    → (tame && not (is_right_mark kind first && (eqb second i && eqb mark generation))) ≡ false → tame ≡ true
    → ((kind ≡ 1) → (first ≡ 0x46) × (second ≡ i) × (mark ≡ generation))
    × ((kind ≡ 2) → (first ≡ 0x44) × (second ≡ i) × (mark ≡ generation))
marked tame kind first second mark generation i e t = (
  λ one. (grind (arith, nat_tests), grind (arith, nat_tests), grind (arith, nat_tests)),
  λ two. (grind (arith, nat_tests), grind (arith, nat_tests), grind (arith, nat_tests)),
)

marked_at : (d : Disk) (b c i first : ℕ) → b ≡ c → (byte d b 0 ≡ first) × (byte d b 1 ≡ i)
    × (mark_generation d b ≡ generation_of d i) → Marked d c i first
marked_at d b c i first same m = record {
  first = ap (λ (x : ℕ). byte d x 0) (sym same) ∙ m.0;
  owner = ap (λ (x : ℕ). byte d x 1) (sym same) ∙ m.1;
  generation = ap (mark_generation d) (sym same) ∙ m.2;
}

current : (d : Disk) (b i first : ℕ) → i < 16 → is_data d b ≡ true → Marked d b i first → is_current d b ≡ true
current d b i first below inside m =
    let owner : nat_lt (byte d b 1) 16 ≡ true = ap (λ (x : ℕ). nat_lt x 16) m.owner ∙ lt-ltb i 16 below in
    let same : mark_generation d b ≡ generation_of d (byte d b 1) = m.generation ∙ ap (generation_of d) (sym m.owner) in
    rw (inside, owner, eq-eqb (mark_generation d b) (generation_of d (byte d b 1)) same) refl

pub mark-file : (d : Disk) (b i : ℕ) → i < 16 → is_data d b ≡ true → Marked d b i 0x46
    → (tables_of d).mark b ≡ FileOf i
unfolding tables_of
mark-file d b i below inside m =
    rw (current d b i 0x46 below inside m, eq-eqb (byte d b 0) 0x46 m.first) (ap FileOf m.owner)

pub mark-directory : (d : Disk) (b i : ℕ) → i < 16 → is_data d b ≡ true → Marked d b i 0x44
    → (tables_of d).mark b ≡ DirectoryOf i
unfolding tables_of
mark-directory d b i below inside m =
    let first = m.first in
    let second = m.owner in
    rw (
      current d b i 0x44 below inside m,
      eq-eqb (byte d b 0) 0x44 first,
      ne_eqb (byte d b 0) 0x46
          (λ z. let no : 0x44 ≡ 0x46 = sym first ∙ z in omega arith),
    ) (ap DirectoryOf second)

-- ---- how many name a block, and lead to an inode

pub namers-count : (d : Disk) (b : ℕ) → length (namers d b)
    ≡ sum_below 16 (λ i. sum_below 4 (λ s. one_if (names_block d i s b)))
unfolding namers each_slot
namers-count d b =
    let named : ℕ → List (ℕ × ℕ) = λ i. some_below 4 (λ s. when (names_block d i s b) (i, s)) in
    length-each_below 16 named
    ∙ sum_below-same 16 (λ i. sum_below 4 (λ s. one_if (names_block d i s b))) (λ i. length (named i))
    (λ i _. length-some_below 4 (λ s. names_block d i s b) (λ s. (i, s)))

leads-test : (d : Disk) (dir k i : ℕ) → one_if (leads_to d dir k i) ≡ leads (place_of d dir k) i
leads-test d dir k i = go (counts d dir) (entry_of d dir k) (spelling_of d dir k)
  where
    go : (b : Bool) (n : ℕ) (sp : List ℕ) → one_if ((b && not (eqb n 0)) && eqb (n - 1) i) ≡ leads (place_at b n sp) i
    go false n sp = refl
    go true zero sp = refl
    go true (suc n) sp =
        let same : suc n - 1 ≡ n = omega arith in
        let some : eqb (suc n) 0 ≡ false = ne_eqb (suc n) 0 (λ z. omega arith) in
        rw (some, same) refl

pub entries-count : (d : Disk) (i : ℕ) → length (entries_to d i) ≡ count_to (tables_of d).entry i
unfolding entries_to each_entry
entries-count d i =
    let leading : ℕ → List (ℕ × ℕ) = λ dir. some_below 10 (λ k. when (leads_to d dir k i) (dir, k)) in
    length-each_below 16 leading
    ∙ sum_below-same 16 (λ dir. sum_below 10 (λ k. leads ((tables_of d).entry dir k) i)) (λ dir. length (leading dir))
    (λ dir less.
    length-some_below 10 (λ k. leads_to d dir k i) (λ k. (dir, k))
    ∙ sum_below-same 10 (λ k. leads ((tables_of d).entry dir k) i) (λ k. one_if (leads_to d dir k i))
    (λ k small. leads-test d dir k i ∙ ap (λ (p : Place). leads p i) (sym (entry-at d dir k less small))))

-- ---- entries lead to the same inodes

reached-by : (d : Disk) (n i : ℕ) → ReachedIn d n i → ReachedBy (tables_of d).entry n i
reached-by d zero i r = r
reached-by d (suc n) i r =
    let own = (same-view d).names r.0 r.1 i in
    let place = own.0 r.2 in
    (r.0, place.0, name_spelling r.1, place.1, reached-by d n r.0 r.3)

-- ---- the four groups

blocks-sound : (d : Disk) → IsDisk d → IsSound d → (let t = tables_of d in
    SoundBlocks t.blocks t.journal t.kind t.pointer t.mark t.used)
unfolding tables_of
blocks-sound d disk sound =
    let t = tables_of d in
    let clean = clean_no_fault d sound.clean in
    let bytes = pointer-bytes d in
    let inside : (i s b : ℕ) → PointerBytes d i s b → is_data d b ≡ true = λ i s b p. ap (is_data d) (sym p.is)
    ∙ tame d i s p.pointer (clean.no_wild i p.in_inodes s p.in_slots) in
    let tamed : (i s b : ℕ) → PointerBytes d i s b → is_tame d i s ≡ true =
    λ i s b p. rw (p.pointer, tame d i s p.pointer (clean.no_wild i p.in_inodes s p.in_slots)) refl in
    let naming : (i s b : ℕ) → PointerBytes d i s b → names_block d i s b ≡ true =
    λ i s b p. rw (tamed i s b p, eq-eqb (pointer_of d i s) b p.is) refl in
    let marks : (i s b : ℕ) (p : PointerBytes d i s b) → _ = λ i s b p. marked (is_tame d i s) (kind_of d i)
    (byte d (pointer_of d i s) 0) (byte d (pointer_of d i s) 1) (mark_generation d (pointer_of d i s))
    (generation_of d i) i (clean.no_unwritten i p.in_inodes s p.in_slots)
    (tamed i s b p) in
    record {
      slots = λ i s some. (pointer-below d i s some).1;
      once = λ b i s j r h g.
          let p = bytes i s b h in
          let q = bytes j r b g in
          let own = data-block d b (inside i s b p) in
          let one : one_if (names_block d i s b) ≢ 0 = λ z. omega (arith, sym (ap one_if (naming i s b p)) ∙ z) in
          let two : one_if (names_block d j r b) ≢ 0 = λ z. omega (arith, sym (ap one_if (naming j r b q)) ∙ z) in
          let few : length (namers d b) ≤ 1 = grind (arith, nat_tests, clean.no_twice b own.1) in
          sum_below-pairs 16 4 (λ k m. one_if (names_block d k m b)) i s j r p.in_inodes q.in_inodes p.in_slots
          q.in_slots one two (subst (λ (x : ℕ). x ≤ 1) (namers-count d b) few);
      file_blocks = λ i s b h one.
          let p = bytes i s b h in
          let m = (marks i s b p).0 (sym (kind-at d i p.in_inodes) ∙ one) in
          mark-file d b i p.in_inodes (inside i s b p) (marked_at d (pointer_of d i s) b i 0x46 p.is m);
      directory_blocks = λ i s b h two.
          let p = bytes i s b h in
          let m = (marks i s b p).1 (sym (kind-at d i p.in_inodes) ∙ two) in
          mark-directory d b i p.in_inodes (inside i s b p) (marked_at d (pointer_of d i s) b i 0x44 p.is m);
      in_data_area = λ i s b h. data-block d b (inside i s b (bytes i s b h));
      root_block = pointer-at d 0 0 (omega arith) (omega arith) ∙ sound.root.1.block_is;
      one_block = λ i two.
          let live = live-at d i (λ z. omega arith) in
          let o = sound.directories i live.0 (sym (kind-at d i live.0) ∙ two) in
          let own = counts-parts d i o.0 in
          let low = own.low in (
            λ z. let none : pointer_of d i 0 ≡ 0 = sym (pointer-at d i 0 live.0 (omega arith)) ∙ z in omega arith,
            λ s other. elim (cases_eq (t.pointer i s) 0) [
              | inl z ↦ z
              | inr some ↦ let at = pointer-below d i s some in pointer-at d i s at.0 at.1 ∙ o.1 s (omega arith) at.1
            ],
          );
      packed = λ i s one none. elim (cases_eq (t.pointer i (s + 1)) 0) [
        | inl z ↦ z
        | inr some ↦
            let at = pointer-below d i (s + 1) some in
            pointer-at d i (s + 1) at.0 at.1 ∙ sound.packed i at.0 (sym (kind-at d i at.0) ∙ one) s at.1
            (sym (pointer-at d i s at.0 (omega arith)) ∙ none)
      ];
      low_used = λ b less.
          let below : b < d.blocks = omega (arith, disk.room) in
          used-at d b below ∙ rw (ne_eqb (map_of d b) 0 ((sound.map b below).1 (inl less))) refl;
      named_used = λ i s b h.
          let below = (data-block d b (inside i s b (bytes i s b h))).1 in
          used-at d b below ∙ rw (ne_eqb (map_of d b) 0 ((sound.map b below).1
          (inr (i, s, ((same-view d).pointers i s b).1 h)))) refl;
      used_named = λ b low u.
          let at = used-below d b u in
          elim ((sound.map b at.0).0 at.1) [
            | inl less ↦ absurd (omega arith)
            | inr w ↦ (w.0, w.1, ((same-view d).pointers w.0 w.1 b).0 w.2)
          ];
    }

inodes-sound : (d : Disk) → IsSound d → (let t = tables_of d in SoundInodes t.kind t.links)
inodes-sound d sound =
    let t = tables_of d in
    let kind : (i : ℕ) → i < 16 → t.kind i ≡ kind_of d i = kind-at d in
    let below : (i : ℕ) → t.kind i ≢ 0 → i < 16 = λ i live. (live-at d i live).0 in
    record {
      below = below;
      root = (kind 0 (omega arith) ∙ sound.root.0.kind_is, links-at d 0 (omega arith) ∙ sound.root.0.links_are);
      kinds = λ i. elim (cases_eq (t.kind i) 0) [
        | inl z ↦ omega arith
        | inr some ↦
            let live = live-at d i some in
            let at = kind i live.0 in
            elim (sound.kinds i live.1) [ inl one ↦ omega arith | inr two ↦ omega arith ]
      ];
      one_name = λ i two.
          let less = below i (λ z. omega arith) in
          links-at d i less ∙ elim (cases_eq i 0) [
            | inl z ↦ ap (links_of d) z ∙ sound.root.0.links_are
            | inr other ↦ sound.one_name i (omega arith) less (sym (kind i less) ∙ two)
          ];
      few_names = λ i one.
          let less = below i (λ z. omega arith) in
          let few = sound.few_names i less (sym (kind i less) ∙ one) in
          let at = links-at d i less in
          (omega (arith, few.0), omega (arith, few.1));
    }

names-sound : (d : Disk) → IsSound d → (let t = tables_of d in SoundNames t.kind t.entry)
names-sound d sound =
    let t = tables_of d in
    let bytes : (dir k i : ℕ) (spelling : List ℕ) → t.entry dir k ≡ Leads i spelling
    → EntryBytes d dir k i spelling = entry-bytes d in
    let is : (dir k i : ℕ) (spelling : List ℕ) → t.entry dir k ≡ Leads i spelling → (is_entry d dir k ≡ true)
    × (target_of d dir k ≡ i) = λ dir k i spelling e. entry-is d dir k i spelling (bytes dir k i spelling e) in
    let apart : (dir j k i h : ℕ) (spelling : List ℕ) → t.entry dir j ≡ Leads i spelling
    → t.entry dir k ≡ Leads h spelling → ¬ (j < k) = λ dir j k i h spelling e f less.
    let p = bytes dir j i spelling e in
    let q = bytes dir k h spelling f in
    sound.distinct dir p.in_dir j k less q.in_place (is dir j i spelling e).0 (is dir k h spelling f).0
    (p.spelt ∙ sym q.spelt) in
    record {
      places = λ dir k i spelling e. let b = bytes dir k i spelling e in (b.in_dir, b.in_place);
      parents = λ dir k i spelling e.
          let b = bytes dir k i spelling e in
          kind-at d dir b.in_dir ∙ (counts-parts d dir b.counting).directory;
      no_dangling = λ dir k i spelling e z.
          let b = bytes dir k i spelling e in
          let at = is dir k i spelling e in
          let live = living (is_entry d dir k) (is_live d (target_of d dir k)) at.0
          ((clean_no_fault d sound.clean).no_dangling dir b.in_dir k b.in_place) in
          let living_i : is_live d i ≡ true = ap (is_live d) (sym at.1) ∙ live in
          let less : i < 16 = grind (arith, nat_tests) in
          let some : kind_of d i ≢ 0 = grind (arith, nat_tests) in
          some (sym (kind-at d i less) ∙ z);
      no_way_up = λ dir k i spelling e z.
          let b = bytes dir k i spelling e in
          let at = is dir k i spelling e in
          sound.no_way_up dir b.in_dir k b.in_place at.0 (at.1 ∙ z);
      named = λ dir k i spelling e.
          let b = bytes dir k i spelling e in
          let w = sound.named dir b.in_dir k b.in_place (is dir k i spelling e).0 in
          (w.0, w.1, sym b.spelt ∙ w.2);
      distinct = λ dir j k i h spelling e f. elim (cases_order j k) [
        | inl same ↦ same
        | inr other ↦ elim other [
          | inl less ↦ absurd (apart dir j k i h spelling e f less)
          | inr more ↦ absurd (apart dir k j h i spelling f e more)
        ]
      ];
      reached = λ i live. let r = sound.reached i (live-at d i live).1 in (r.0, reached-by d r.0 i r.1);
    }
  where
    living : (a b : Bool) → a ≡ true → (a && not b) ≡ false → b ≡ true
    living true true p q = refl
    living true false p q = cc
    living false b p q = cc

counts-sound : (d : Disk) → IsSound d → (let t = tables_of d in SoundCounts t.kind t.links t.entry)
counts-sound d sound = record {
  counted = λ i not_root live.
      let at = live-at d i live in
      sym (entries-count d i) ∙ sound.counted i (omega arith) at.1 ∙ sym (links-at d i at.0);
}

pub sound-tables : (d : Disk) → IsDisk d → IsSound d → Sound (tables_of d)
sound-tables d disk sound = record {
  blocks = blocks-sound d disk sound;
  inodes = inodes-sound d sound;
  names = names-sound d sound;
  counts = counts-sound d sound;
}
