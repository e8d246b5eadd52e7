-- What a path shows depends on the places of the path alone.
use Rattle.std.proofs.Common.{◌≡◌, ℕ, zero, suc, ◌+◌, ◌*◌, ◌<◌, ◌≤◌, inl, inr, List, [], ◌∷◌, Bool, true, false, ◌&&◌}
use Rattle.std.proofs.Common.{not, Option, Some, None, take, drop, get_or, ◌-◌, arith, refl, sym, ◌∙◌, ap, subst}
use Rattle.std.specs.Prelude.{◌==◌, option_map, slice_range}
use Rattle.std.proofs.lemmas.Bool.{cases_Bool, false≢true}
use Rattle.std.proofs.lemmas.List.{drop-drop, drop-take, take-take}
use Rattle.crash_model.specs.Disk.{Disk, byte, block_of}
use Rattle.crash_model.specs.Layout.{kind_of, pointer_of, is_data, is_owned, is_live, is_entry, entry_of, target_of}
use Rattle.crash_model.specs.Layout.{counts, spelling_of, entry_offset}
use Rattle.crash_model.specs.Generations.{generation_of, mark_generation}
use Rattle.crash_model.specs.Sound.{IsSound}
use Rattle.crash_model.proofs.Clean.{clean_no_fault}
use Rattle.crash_model.specs.Lists.{first_below}
use Rattle.crash_model.proofs.EachBelow.{first_below-none}
use Rattle.crash_model.specs.Paths.{child_of, end_of, slot_shown, inode_shown, names_show}
use Rattle.crash_model.specs.Plan.{is_named, entry_named}
use Rattle.inode_fs.proofs.Lands.{named-below}
use Rattle.soundness_laws.proofs.Puts.{generation-same, mark_generation-same}
use Rattle.soundness_laws.proofs.Searches.{first_below-is_some}
use Rattle.journal_replay.proofs.Blocks.{block-at}

-- the same search by another test
pub first_below-same : (n : ℕ) (f g : ℕ → Bool) → ((k : ℕ) → k < n → f k ≡ g k) → first_below n f ≡ first_below n g
unfolding first_below
first_below-same zero f g same = refl
first_below-same (suc n) f g same = rw (
  first_below-same n f g (λ k less. same k (omega arith)),
  same n (omega arith),
) refl

-- an inode's bytes are the same
pub record SameInode (d e : Disk) (i : ℕ) : Type 0 where
  pub at : (o p : ℕ) → o < 16 → p ≡ 256 + 16 * i + o → get_or e.bytes p 0 ≡ get_or d.bytes p 0

-- the block of a slot is the same, if it is one of the data area
abbrev pub SameSlot : Disk → Disk → ℕ → ℕ → Type 0
SameSlot d e i s = is_data d (pointer_of d i s) ≡ true
    → block_of e (pointer_of d i s) ≡ block_of d (pointer_of d i s)

-- the places of names from an inode on are the same
abbrev pub Agree : Disk → Disk → Option ℕ → List (List ℕ) → Type 0
Agree d e None names = Unit {0}
Agree d e (Some i) [] = SameInode d e i × ((s : ℕ) → s < 4 → SameSlot d e i s)
Agree d e (Some i) (name ∷ names) = SameInode d e i × SameSlot d e i 0 × Agree d e (child_of d i name) names

-- entries lead to live inodes
pub record LeadsToLive (d : Disk) : Type 0 where
  pub live : (dir k : ℕ) → dir < 16 → k < 10 → is_entry d dir k ≡ true → is_live d (target_of d dir k) ≡ true

-- where an inode is that names lead to
abbrev pub Known : Option ℕ → Type 0
Known None = Unit {0}
Known (Some i) = i < 16

pub child-known : (d : Disk) (i : ℕ) (name : List ℕ) → Known (child_of d i name)
child-known d i name = by (entry_named d i name) refl
  where
    by : (found : Option ℕ) → entry_named d i name ≡ found → Known (option_map (target_of d i) found)
    by None is = tt
    by (Some k) is = named-below d i name k (first_below-is_some 10 (is_named d i name) k is).holds

-- some bytes of a block
pub part_of_block : (xs : List ℕ) (b o n : ℕ) → o + n ≤ 128
    → take n (drop (128 * b + o) xs) ≡ take n (drop o (take 128 (drop (128 * b) xs)))
part_of_block xs b o n less =
    let rest : List ℕ = drop (128 * b) xs in
    let whole : o + (128 - o) ≡ 128 = omega arith in
    let least : n ≤ 128 - o = omega arith in
    ap (take n) (sym (drop-drop o (128 * b) xs))
    ∙ sym (ap (λ (m : ℕ). take n (drop o (take m rest))) (sym whole)
    ∙ (ap (take n) (drop-take o (128 - o) rest)
    ∙ take-take n (128 - o) (drop o rest) least))

module _ (d : Disk) (bytes : List ℕ) where
  abbrev e : Disk
  e = record d { bytes = bytes }

  byte-same : (b o : ℕ) → block_of e b ≡ block_of d b → o < 128 → byte e b o ≡ byte d b o
  byte-same b o same less = sym (block-at e b o less) ∙ ap (λ (xs : List ℕ). get_or xs o 0) same ∙ block-at d b o less

  part-same : (b o n : ℕ) → block_of e b ≡ block_of d b → o + n ≤ 128
      → take n (drop (128 * b + o) bytes) ≡ take n (drop (128 * b + o) d.bytes)
  part-same b o n same less = part_of_block bytes b o n less ∙ ap (λ (xs : List ℕ). take n (drop o xs)) same
      ∙ sym (part_of_block d.bytes b o n less)

  first-same : (b : ℕ) → block_of e b ≡ block_of d b
      → slice_range bytes (128 * b) (128 * b + 4) ≡ slice_range d.bytes (128 * b) (128 * b + 4)
  first-same b same =
      let four : 128 * b + 4 - 128 * b ≡ 4 = omega arith in
      let at : 128 * b + 0 ≡ 128 * b = omega arith in
      ap (λ (m : ℕ). take m (drop (128 * b) bytes)) four
      ∙ (ap (λ (x : ℕ). take 4 (drop x bytes)) (sym at) ∙ (part-same b 0 4 same (omega arith)
      ∙ (ap (λ (x : ℕ). take 4 (drop x d.bytes)) at ∙ ap (λ (m : ℕ). take m (drop (128 * b) d.bytes)) (sym four))))

  module _ (i : ℕ) (inode : SameInode d e i) where
    kind-same : kind_of e i ≡ kind_of d i
    kind-same = inode.at 0 (256 + 16 * i) (omega arith) (omega arith)

    pointer-same : (s : ℕ) → s < 4 → pointer_of e i s ≡ pointer_of d i s
    pointer-same s less = inode.at (4 + s) (260 + 16 * i + s) (omega arith) (omega arith)

    own_generation-same : generation_of e i ≡ generation_of d i
    own_generation-same = generation-same d bytes i (inode.at 2 (258 + 16 * i) (omega arith) (omega arith))

    counts-same : SameSlot d e i 0 → counts e i ≡ counts d i
    counts-same same =
        let p = pointer_of d i 0 in
        let at : pointer_of e i 0 ≡ p = pointer-same 0 (omega arith) in
        elim (cases_Bool (is_data d p)) [
          | inl inside ↦
              let block = same inside in
              counted (kind_of e i) (kind_of d i) (pointer_of e i 0) p kind-same at
              (byte-same p 0 block (omega arith)) (byte-same p 1 block (omega arith))
              (mark_generation-same d bytes p (byte-same p 2 block (omega arith)))
          | inr outside ↦ none (kind_of e i) (kind_of d i) (pointer_of e i 0) p at outside
        ]
      where
        counted : (k k' p p' : ℕ) → k ≡ k' → p ≡ p' → byte e p' 0 ≡ byte d p' 0 → byte e p' 1 ≡ byte d p' 1
            → mark_generation e p' ≡ mark_generation d p'
            → (k == 2 && is_data d p && byte e p 0 == 0x44 && is_owned e p i)
            ≡ (k' == 2 && is_data d p' && byte d p' 0 == 0x44 && is_owned d p' i)
        counted k k' p p' kinds at first second mark = rw (kinds, at, first, second, mark, own_generation-same) refl

        none : (k k' p p' : ℕ) → p ≡ p' → is_data d p' ≡ false
            → (k == 2 && is_data d p && byte e p 0 == 0x44 && is_owned e p i)
            ≡ (k' == 2 && is_data d p' && byte d p' 0 == 0x44 && is_owned d p' i)
        none k k' p p' at outside = rw (at, outside) (never (k == 2) (byte e p' 0 == 0x44) (is_owned e p' i)
            ∙ sym (never (k' == 2) (byte d p' 0 == 0x44) (is_owned d p' i)))
          where
            never : (a b c : Bool) → (a && false && b && c) ≡ false
            never true b c = refl
            never false b c = refl

  -- where a name leads
  module _ (live : LeadsToLive d) (live_too : LeadsToLive e) (i : ℕ) (below : i < 16) (inode : SameInode d e i)
      (same : SameSlot d e i 0) (name : List ℕ) where
    -- in a directory that counts
    module _ (counted : counts d i ≡ true) where
      abbrev p : ℕ
      p = pointer_of d i 0

      at : pointer_of e i 0 ≡ p
      at = pointer-same i inode 0 (omega arith)

      inside : is_data d p ≡ true
      inside = inside_of (kind_of d i == 2) (is_data d p) (byte d p 0 == 0x44) (is_owned d p i) counted
        where
          inside_of : (a b c f : Bool) → (a && b && c && f) ≡ true → b ≡ true
          inside_of true true c f is = refl
          inside_of true false c f is = absurd (false≢true is)
          inside_of false b c f is = absurd (false≢true is)

      entry-same : (k : ℕ) → k < 10 → entry_of e i k ≡ entry_of d i k
      entry-same k less = ap (λ (x : ℕ). byte e x (entry_offset k)) at
          ∙ byte-same p (entry_offset k) (same inside) (omega arith)

      spelling-same : (k : ℕ) → k < 10 → spelling_of e i k ≡ spelling_of d i k
      spelling-same k less = ap (λ (x : ℕ). take 11 (drop (128 * x + entry_offset k + 1) bytes)) at
          ∙ (ap (λ (x : ℕ). take 11 (drop x bytes)) (plus p (entry_offset k))
          ∙ (part-same p (entry_offset k + 1) 11 (same inside) (omega arith)
          ∙ ap (λ (x : ℕ). take 11 (drop x d.bytes)) (sym (plus p (entry_offset k)))))
        where
          plus : (b o : ℕ) → 128 * b + o + 1 ≡ 128 * b + (o + 1)
          plus b o = omega arith

      target-same : (k : ℕ) → k < 10 → target_of e i k ≡ target_of d i k
      target-same k less = ap (λ (x : ℕ). x - 1) (entry-same k less)

      used-same : (k : ℕ) → k < 10 → is_entry e i k ≡ is_entry d i k
      used-same k less = rw (counts-same i inode same, entry-same k less) refl

      named-same : (k : ℕ) → k < 10 → is_named e i name k ≡ is_named d i name k
      named-same k less = by (is_entry d i k) refl
        where
          by : (used : Bool) → is_entry d i k ≡ used → is_named e i name k ≡ is_named d i name k
          by true is = rw (
            used-same k less ∙ is,
            is,
            live.live i k below less is,
            live_too.live i k below less (used-same k less ∙ is),
            spelling-same k less,
          ) refl
          by false is = rw (used-same k less ∙ is, is) refl

      child_there : child_of e i name ≡ child_of d i name
      child_there = by (entry_named d i name) refl
        where
          by : (found : Option ℕ) → entry_named d i name ≡ found → child_of e i name ≡ child_of d i name
          by None is = rw (first_below-same 10 (is_named e i name) (is_named d i name) named-same ∙ is, is) refl
          by (Some k) is =
              rw (first_below-same 10 (is_named e i name) (is_named d i name) named-same ∙ is, is)
              (ap Some (target-same k (first_below-is_some 10 (is_named d i name) k is).below))

    child-same : child_of e i name ≡ child_of d i name
    child-same = elim (cases_Bool (counts d i)) [
      | inl counted ↦ child_there counted
      | inr none ↦
          ap (option_map (target_of e i)) (nothing e (counts-same i inode same ∙ none))
          ∙ sym (ap (option_map (target_of d i)) (nothing d none))
    ]
      where
        nothing : (f : Disk) → counts f i ≡ false → entry_named f i name ≡ None
        nothing f none = first_below-none 10 (is_named f i name) (λ k less. rw none refl)

  -- what an inode shows
  slots-same : (i : ℕ) → SameInode d e i → ((s : ℕ) → s < 4 → SameSlot d e i s) → (s : ℕ) → s < 4
      → slot_shown e i s ≡ slot_shown d i s
  slots-same i inode same s less =
      shown (is_data d (pointer_of d i s)) refl
    where
      shown : (inside : Bool) → is_data d (pointer_of d i s) ≡ inside → slot_shown e i s ≡ slot_shown d i s
      shown true is = rw (pointer-same i inode s less, is, first-same (pointer_of d i s) (same s less is)) refl
      shown false is = rw (pointer-same i inode s less, is) refl

  inode-shown : (i : ℕ) → SameInode d e i → ((s : ℕ) → s < 4 → SameSlot d e i s)
      → inode_shown e (Some i) ≡ inode_shown d (Some i)
  inode-shown i inode same = rw (
    counts-same i inode (same 0 (omega arith)),
    kind-same i inode,
    slots-same i inode same 0 (omega arith),
    slots-same i inode same 1 (omega arith),
    slots-same i inode same 2 (omega arith),
    slots-same i inode same 3 (omega arith),
  ) refl

  module _ (live : LeadsToLive d) (live_too : LeadsToLive e) where
    shown-same : (inode : Option ℕ) (names : List (List ℕ)) → Known inode → Agree d e inode names
        → inode_shown e (end_of e inode names) ≡ inode_shown d (end_of d inode names)
    shown-same None [] known agree = refl
    shown-same None (name ∷ names) known agree = refl
    shown-same (Some i) [] known agree = inode-shown i agree.0 agree.1
    shown-same (Some i) (name ∷ names) known agree =
        ap (λ (c : Option ℕ). inode_shown e (end_of e c names))
        (child-same live live_too i known agree.0 agree.1 name)
        ∙ shown-same (child_of d i name) names (child-known d i name) agree.2

    pub names-same : (names : List (List ℕ)) → Agree d e (Some 0) names → names_show e names ≡ names_show d names
    unfolding names_show
    names-same names agree = shown-same (Some 0) names (omega arith) agree

-- the numbers of blocks are the same, and whether there are generations
pub record IsAlike (d e : Disk) : Type 0 where
  pub blocks : e.blocks ≡ d.blocks
  pub journal : e.journal ≡ d.journal
  pub generations : e.generations ≡ d.generations

pub alike-shown : (d e : Disk) → IsAlike d e → LeadsToLive d → LeadsToLive e → (names : List (List ℕ))
    → Agree d e (Some 0) names → names_show e names ≡ names_show d names
alike-shown d e alike live live_too names agree =
    let f : Disk = record d { bytes = e.bytes } in
    let same : f ≡ e = make d.blocks e.blocks d.journal e.journal d.generations e.generations e.bytes
    (sym alike.blocks) (sym alike.journal) (sym alike.generations) in
    ap (λ (x : Disk). names_show x names) (sym same)
    ∙ names-same d e.bytes live (subst LeadsToLive (sym same) live_too) names
    (subst (λ (x : Disk). Agree d x (Some 0) names) (sym same) agree)
  where
    make : (a b i j : ℕ) (g h : Bool) (xs : List ℕ) → a ≡ b → i ≡ j → g ≡ h
        → ◌≡◌ {A = Disk} (record { blocks = a; journal = i; generations = g; bytes = xs })
        (record { blocks = b; journal = j; generations = h; bytes = xs })
    make a b i j g h xs p q r = rw (p, q, r) refl

-- in a sound disk they do
pub sound-live : (d : Disk) → IsSound d → LeadsToLive d
sound-live d sound = record {
  live = λ dir k below less used. not_dead (is_entry d dir k) (is_live d (target_of d dir k))
      ((clean_no_fault d sound.clean).no_dangling dir below k less) used;
}
  where
    not_dead : (entry live : Bool) → (entry && not live) ≡ false → entry ≡ true → live ≡ true
    not_dead true true e is = refl
    not_dead true false e is = absurd (false≢true (sym e))
    not_dead false live e is = absurd (false≢true is)
