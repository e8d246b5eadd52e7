-- A disk that holds the root directory alone is sound.
use Rattle.std.proofs.Common.{◌≡◌, ◌≢◌, ℕ, zero, suc, ◌+◌, ◌*◌, ◌<◌, ◌≤◌, ◌⊎◌, ◌↔◌, inl, inr, List, [], length, Bool}
use Rattle.std.proofs.Common.{true, false, ◌&&◌, ◌==◌, not, nat_lt, IsTrue, Option, None, arith, refl, sym, ap, ◌∙◌}
use Rattle.std.proofs.Common.{subst, length-append}
use Rattle.std.proofs.lemmas.Bool.{cases_lt, false≢true, eq-eqb, ne_eqb, lt-ltb, le-ltb, le-leb, and_right}
use Rattle.std.specs.Prelude.{option_to_list}
use Rattle.crash_model.specs.Lists.{each_below, some_below, when}
use Rattle.crash_model.specs.Disk.{Disk, IsDisk, byte}
use Rattle.crash_model.specs.Layout.{kind_of, links_of, pointer_of, map_of, is_live, is_data, counts, is_entry}
use Rattle.crash_model.specs.Layout.{entry_of, is_pointer, is_owned}
use Rattle.crash_model.specs.Generations.{generation_of, mark_generation}
use Rattle.crash_model.specs.Faults.{IsClean, is_tame, is_wild, is_unwritten, is_right_mark, is_marked_free}
use Rattle.crash_model.specs.Faults.{names_block, namers, leads_to, each_slot, each_entry, entries_to}
use Rattle.crash_model.specs.View.{HasPointer}
use Rattle.crash_model.specs.Sound.{IsSound}
use Rattle.crash_model.proofs.Clean.{no_fault_clean}
use Rattle.crash_model.proofs.EachBelow.{each_below-none, some_below-none, length-option}

-- inode 0 alone, with one block, which holds no entries
pub record HasRootAlone (d : Disk) : Type 0 where
  pub disk : IsDisk d
  pub kind : kind_of d 0 ≡ 2
  pub links : links_of d 0 ≡ 1
  pub block : pointer_of d 0 0 ≡ 4 + d.journal
  pub one_block : (s : ℕ) → 0 < s → s < 4 → pointer_of d 0 s ≡ 0
  pub others : (i : ℕ) → 0 < i → i < 16 → kind_of d i ≡ 0
  pub mark : byte d (4 + d.journal) 0 ≡ 0x44
  pub owner : byte d (4 + d.journal) 1 ≡ 0
  pub generations : mark_generation d (4 + d.journal) ≡ generation_of d 0
  pub empty : (k : ℕ) → k < 10 → byte d (4 + d.journal) (8 + 12 * k) ≡ 0
  pub used : (b : ℕ) → b < 5 + d.journal → map_of d b ≢ 0
  pub unused : (b : ℕ) → 5 + d.journal ≤ b → b < d.blocks → map_of d b ≡ 0

-- ---- lists with an element at place 0 at most

each_below-first : {X : Type 0} (n : ℕ) (list : ℕ → List X) → ((k : ℕ) → 0 < k → k < n → list k ≡ [])
    → length (each_below n list) ≤ length (list 0)
unfolding each_below
each_below-first zero list none = omega arith
each_below-first (suc zero) list none = omega (arith, length-append [] (list 0))
each_below-first (suc (suc n)) list none =
    omega (
      arith,
      length-append (each_below (suc n) list) (list (suc n)),
      each_below-first (suc n) list (λ k some below. none k some (omega arith)),
      ap length (none (suc n) (omega arith) (omega arith)),
    )

some_below-first : {X : Type 0} (n : ℕ) (at : ℕ → Option X) → ((k : ℕ) → 0 < k → k < n → at k ≡ None)
    → length (some_below n at) ≤ 1
unfolding some_below
some_below-first zero at none = omega arith
some_below-first (suc zero) at none = length-option (at 0)
some_below-first (suc (suc n)) at none =
    omega (
      arith,
      length-append (some_below (suc n) at) (option_to_list (at (suc n))),
      some_below-first (suc n) at (λ k some below. none k some (omega arith)),
      ap (λ (o : Option _). length (option_to_list o)) (none (suc n) (omega arith) (omega arith)),
    )

-- ---- what is there

zero_or_more : (i : ℕ) → (i ≡ 0) ⊎ (0 < i)
zero_or_more zero = inl refl
zero_or_more (suc i) = inr (omega arith)

live-root : (d : Disk) → HasRootAlone d → is_live d 0 ≡ true
live-root d root = rw root.kind refl

live-others : (d : Disk) (i : ℕ) → HasRootAlone d → 0 < i → is_live d i ≡ false
live-others d i root some = elim (cases_lt i 16) [
  | inl below ↦ rw (root.others i some below) (and_right (nat_lt i 16) false refl)
  | inr beyond ↦ rw (le-ltb i 16 beyond) refl
]

live-is-root : (d : Disk) (i : ℕ) → HasRootAlone d → IsTrue (is_live d i) → i ≡ 0
live-is-root d i root live = elim (zero_or_more i) [
  | inl none ↦ none
  | inr some ↦ absurd (false≢true (sym (live-others d i root some) ∙ live))
]

area-root : (d : Disk) → HasRootAlone d → is_data d (4 + d.journal) ≡ true
area-root d root = rw (
  le-leb (4 + d.journal) (4 + d.journal) (omega arith),
  lt-ltb (4 + d.journal) d.blocks (omega (arith, root.disk.room)),
) refl

counts-root : (d : Disk) → HasRootAlone d → counts d 0 ≡ true
counts-root d root = rw (
  root.kind,
  root.block,
  area-root d root,
  root.mark,
  root.owner,
  root.generations,
  eq-eqb (generation_of d 0) (generation_of d 0) refl,
) refl

counts-others : (d : Disk) (i : ℕ) → HasRootAlone d → 0 < i → i < 16 → counts d i ≡ false
counts-others d i root some below = rw (root.others i some below) refl

no-entry : (d : Disk) (dir k : ℕ) → HasRootAlone d → dir < 16 → k < 10 → is_entry d dir k ≡ false
no-entry d dir k root a b = elim (zero_or_more dir) [
  | inl none ↦ subst (λ (i : ℕ). is_entry d i k ≡ false) (sym none) (rw (counts-root d root) (no-root-entry d k root b))
  | inr some ↦ rw (counts-others d dir root some a) refl
]
  where
    no-root-entry : (d : Disk) (k : ℕ) → HasRootAlone d → k < 10 → not (entry_of d 0 k == 0) ≡ false
    no-root-entry d k root b = rw (root.block, root.empty k b) refl

no-entries : (d : Disk) (inode : ℕ) → HasRootAlone d → length (entries_to d inode) ≡ 0
unfolding entries_to each_entry
no-entries d inode root = ap length (each_below-none 16
    _ (λ dir a. some_below-none 10 (λ k. when (leads_to d dir k inode) (dir, k))
    (λ k b. rw (no-entry d dir k root a b) refl)))

no-pointer : (d : Disk) (i s : ℕ) → HasRootAlone d → s < 4 → (0 < i) ⊎ (0 < s) → is_pointer d i s ≡ false
no-pointer d i s root b (inl some) = rw (live-others d i root some) refl
no-pointer d i s root b (inr some) = elim (zero_or_more i) [
  | inl none ↦ subst (λ (j : ℕ). is_pointer d j s ≡ false) (sym none)
      (rw (root.one_block s some b) (and_right (is_live d 0) false refl))
  | inr more ↦ rw (live-others d i root more) refl
]

-- a pointer is that of inode 0 in slot 0
root_or_none : (d : Disk) (i s : ℕ) → HasRootAlone d → s < 4 → ((i ≡ 0) × (s ≡ 0)) ⊎ (is_pointer d i s ≡ false)
root_or_none d i s root b = elim (zero_or_more i) [
  | inl a ↦ elim (zero_or_more s) [
    | inl c ↦ inl (a, c)
    | inr some ↦ inr (no-pointer d i s root b (inr some))
  ]
  | inr some ↦ inr (no-pointer d i s root b (inl some))
]

-- a fault of a pointer that the root's has not, none has
no-fault : (d : Disk) (test : ℕ → ℕ → Bool) → HasRootAlone d → test 0 0 ≡ false
    → ((i s : ℕ) → is_pointer d i s ≡ false → test i s ≡ false) → (i s : ℕ) → s < 4 → test i s ≡ false
no-fault d test root first others i s b = elim (root_or_none d i s root b) [
  | inl both ↦ subst (λ (j : ℕ). test j s ≡ false) (sym both.0) (subst (λ (t : ℕ). test 0 t ≡ false) (sym both.1) first)
  | inr none ↦ others i s none
]

few-namers : (d : Disk) (block : ℕ) → HasRootAlone d → length (namers d block) ≤ 1
unfolding namers each_slot
few-namers d block root =
    let namer : ℕ → ℕ → Option (ℕ × ℕ) = λ i s. when (names_block d i s block) (i, s) in
    let unnamed = λ (i s : ℕ) (none : is_pointer d i s ≡ false). no_namer d block i s none in
    let first : length (some_below 4 (namer 0)) ≤ 1 = some_below-first 4 (namer 0)
    (λ s some b. unnamed 0 s (no-pointer d 0 s root b (inr some))) in
    let all = each_below-first 16 (λ i. some_below 4 (namer i))
    (λ i some a. some_below-none 4 (namer i) (λ s b. unnamed i s (no-pointer d i s root b (inl some)))) in
    omega (arith, first, all)
  where
    no_namer : (d : Disk) (block i s : ℕ) → is_pointer d i s ≡ false
        → when {X = ℕ × ℕ} (names_block d i s block) (i, s) ≡ None
    no_namer d block i s none = rw none refl

-- the root's block is its own, and in use
marked-root : (d : Disk) → HasRootAlone d → (is_right_mark (kind_of d 0) (byte d (pointer_of d 0 0) 0)
    && is_owned d (pointer_of d 0 0) 0) ≡ true
marked-root d root = rw (
  root.kind,
  root.block,
  root.mark,
  root.owner,
  root.generations,
  eq-eqb (generation_of d 0) (generation_of d 0) refl,
) refl

area-pointer : (d : Disk) → HasRootAlone d → is_data d (pointer_of d 0 0) ≡ true
area-pointer d root = subst (λ (b : ℕ). is_data d b ≡ true) (sym root.block) (area-root d root)

used-pointer : (d : Disk) → HasRootAlone d → map_of d (pointer_of d 0 0) ≢ 0
used-pointer d root = subst (λ (b : ℕ). map_of d b ≢ 0) (sym root.block) (root.used (4 + d.journal) (omega arith))

pointer-root : (d : Disk) → HasRootAlone d → is_pointer d 0 0 ≡ true
pointer-root d root = rw (live-root d root, ne_eqb (pointer_of d 0 0) 0 (λ e. absurd (omega (arith, e, root.block))))
    refl

clean-root : (d : Disk) → HasRootAlone d → IsClean d
clean-root d root = no_fault_clean d record {
  no_dangling = λ dir a k b. rw (no-entry d dir k root a b) refl;
  no_twice = λ block below. le-ltb 1 (length (namers d block)) (few-namers d block root);
  no_unwritten = λ i a s b. no-fault d (is_unwritten d) root
      (rw (marked-root d root) (and_right (is_tame d 0 0) false refl)) (λ i s none. rw none refl) i s b;
  no_low_links = λ i a. rw (le-ltb (links_of d i) (length (entries_to d i)) (omega (arith, no-entries d i root)))
      (and_right (is_live d i) false refl);
  no_marked_free = λ i a s b. no-fault d (is_marked_free d) root
      (rw (ne_eqb (map_of d (pointer_of d 0 0)) 0 (used-pointer d root)) (and_right (is_tame d 0 0) false refl))
      (λ i s none. rw none refl) i s b;
  no_wild = λ i a s b. no-fault d (is_wild d) root (rw (area-pointer d root) (and_right (is_pointer d 0 0) false refl))
      (λ i s none. rw none refl) i s b;
}

-- no entry is in use
no-use : (d : Disk) (dir k : ℕ) → HasRootAlone d → dir < 16 → k < 10 → IsTrue (is_entry d dir k) → ⊥
no-use d dir k root a b used = false≢true (sym (no-entry d dir k root a b) ∙ used)

-- inode 0 alone has a kind
kind-root : (d : Disk) (i kind : ℕ) → HasRootAlone d → i < 16 → kind_of d i ≡ kind → kind ≢ 0 → i ≡ 0
kind-root d i kind root a is some = elim (zero_or_more i) [
  | inl none ↦ none
  | inr more ↦ absurd (some (sym is ∙ root.others i more a))
]

no-file : (d : Disk) (i : ℕ) → HasRootAlone d → i < 16 → kind_of d i ≡ 1 → ⊥
no-file d i root a is =
    let none : i ≡ 0 = kind-root d i 1 root a is (λ e. absurd (omega (arith, e))) in
    let two : kind_of d i ≡ 2 = subst (λ (j : ℕ). kind_of d j ≡ 2) (sym none) root.kind in
    absurd (omega (arith, is, two))

directory-root : (d : Disk) (i : ℕ) → HasRootAlone d → i ≡ 0 → IsTrue (counts d i)
    × ((s : ℕ) → 0 < s → s < 4 → pointer_of d i s ≡ 0)
directory-root d i root none =
    subst (λ (j : ℕ). IsTrue (counts d j) × ((s : ℕ) → 0 < s → s < 4 → pointer_of d j s ≡ 0)) (sym none)
    (counts-root d root, root.one_block)

has-pointer : (d : Disk) → HasRootAlone d → HasPointer d 0 0 (4 + d.journal)
has-pointer d root = record { within = omega arith; used = pointer-root d root; block_is = root.block }

used-named : (d : Disk) (block : ℕ) → HasRootAlone d → HasPointer d 0 0 block → map_of d block ≢ 0
used-named d block root pointer = subst (λ (b : ℕ). map_of d b ≢ 0) pointer.block_is (used-pointer d root)

-- the map has as used what lies before the data area, and the root's block
map-root : (d : Disk) (b : ℕ) → HasRootAlone d → b < d.blocks → (map_of d b ≢ 0)
    ↔ ((b < 4 + d.journal) ⊎ ((i : ℕ) × (s : ℕ) × HasPointer d i s b))
map-root d b root below = (forth, back)
  where
    forth : map_of d b ≢ 0 → (b < 4 + d.journal) ⊎ ((i : ℕ) × (s : ℕ) × HasPointer d i s b)
    forth used = elim (cases_lt b (4 + d.journal)) [
      | inl before ↦ inl before
      | inr after ↦ elim (cases_lt b (5 + d.journal)) [
        | inl same ↦ let e : 4 + d.journal ≡ b = omega arith in
            inr (0, 0, subst (λ (c : ℕ). HasPointer d 0 0 c) e (has-pointer d root))
        | inr beyond ↦ absurd (used (root.unused b beyond below))
      ]
    ]

    back : (b < 4 + d.journal) ⊎ ((i : ℕ) × (s : ℕ) × HasPointer d i s b) → map_of d b ≢ 0
    back (inl before) = root.used b (omega arith)
    back (inr there) = elim (root_or_none d there.0 there.1 root there.2.within) [
      | inl both ↦ used-named d b root (subst (λ (s : ℕ). HasPointer d 0 s b) both.1
          (subst (λ (i : ℕ). HasPointer d i there.1 b) both.0 there.2))
      | inr none ↦ absurd (false≢true (sym none ∙ there.2.used))
    ]

pub sound-root : (d : Disk) → HasRootAlone d → IsSound d
sound-root d root = record {
  clean = clean-root d root;
  root = (record { live = live-root d root; kind_is = root.kind; links_are = root.links }, has-pointer d root);
  no_way_up = λ dir a k b used. absurd (no-use d dir k root a b used);
  kinds = λ i live. inr (subst (λ (j : ℕ). kind_of d j ≡ 2) (sym (live-is-root d i root live)) root.kind);
  directories = λ i a is. directory-root d i root (kind-root d i 2 root a is (λ e. absurd (omega (arith, e))));
  packed = λ i a is. absurd (no-file d i root a is);
  named = λ dir a k b used. absurd (no-use d dir k root a b used);
  distinct = λ dir a j k less b used other. absurd (no-use d dir k root a b other);
  counted = λ i some live. absurd (omega (arith, live-is-root d i root live));
  one_name = λ i some a is. absurd (omega (arith, kind-root d i 2 root a is (λ e. absurd (omega (arith, e)))));
  few_names = λ i a is. absurd (no-file d i root a is);
  reached = λ i live. (0, live-is-root d i root live);
  map = λ b below. map-root d b root below;
}
