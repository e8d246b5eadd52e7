-- A disk that is a sound one outside the journal is sound.
use Rattle.std.proofs.Common.{◌≡◌, ℕ, ◌+◌, ◌*◌, ◌<◌, ◌≤◌, ◌⊎◌, inl, inr, List, Bool, true, false, ◌-◌, length, take}
use Rattle.std.proofs.Common.{drop}
use Rattle.std.proofs.Common.{get_or, not, eqb, arith, refl, sym, ◌∙◌, ap, subst}
use mathlib.Core.Path.{fun_ext}
use Rattle.std.proofs.lemmas.Bool.{cases_lt}
use Rattle.std.proofs.lemmas.Grind.{elements, same_number_lists}
use Rattle.crash_model.specs.Disk.{Disk, IsDisk, byte, block_of}
use Rattle.crash_model.specs.Layout.{kind_of, links_of, pointer_of, map_of, is_data}
use Rattle.crash_model.specs.Generations.{generation_of}
use Rattle.crash_model.specs.Sound.{IsSound}
use Rattle.soundness_laws.specs.Tables.{tables_of, place_of, within, Sound}
use Rattle.soundness_laws.specs.Tables.Place.{Free}
use Rattle.soundness_laws.proofs.Puts.{SameBlock, within-same, same_tables, place-same, mark-same, data-block}
use Rattle.soundness_laws.proofs.Puts.{generation-same}
use Rattle.soundness_laws.proofs.ToTables.{sound-tables}
use Rattle.soundness_laws.proofs.FromTables.{tables-sound}
use Rattle.journal_replay.proofs.Blocks.{block-at}
use Rattle.full_journal_laws.specs.Full.{IsOutside}

-- all bytes of a block are the same
pub record SameBytes (d e : Disk) (b : ℕ) : Type 0 where
  pub bytes : (o : ℕ) → o < 128 → byte e b o ≡ byte d b o
  pub spellings : (o : ℕ) → o + 11 ≤ 128 → take 11 (drop (128 * b + o) e.bytes) ≡ take 11 (drop (128 * b + o) d.bytes)

same_block : (d e : Disk) (b : ℕ) → SameBytes d e b → SameBlock d e b
same_block d e b same = record { bytes = λ o less _. same.bytes o less; spellings = λ o _ less. same.spellings o less }

-- a block by its bytes
pub block-bytes : (d e : Disk) (b : ℕ) → 128 * b + 128 ≤ length d.bytes → length e.bytes ≡ length d.bytes
    → block_of e b ≡ block_of d b → SameBytes d e b
block-bytes d e b inside long same = record {
  bytes = λ o less. sym (block-at e b o less) ∙ ap (λ (xs : List ℕ). get_or xs o 0) same ∙ block-at d b o less;
  spellings = λ o less. part e.bytes (128 * b) 128 o 11 less (omega arith)
      ∙ ap (λ (xs : List ℕ). take 11 (drop o xs)) same ∙ sym (part d.bytes (128 * b) 128 o 11 less inside);
}
  where
    part : (xs : List ℕ) (a m o n : ℕ) → o + n ≤ m → a + m ≤ length xs
        → take n (drop (a + o) xs) ≡ take n (drop o (take m (drop a xs)))
    part xs a m o n less inside = same_number_lists _ _ (grind (arith, elements)) (λ k below.
        let least : k < n = grind (arith, elements) in
        grind (arith, elements))

tables-outside : (d : Disk) (bytes : List ℕ) → IsDisk d
    → ((b : ℕ) → b < d.blocks → IsOutside d.journal b → SameBytes d (record d { bytes = bytes }) b)
    → tables_of (record d { bytes = bytes }) ≡ tables_of d
unfolding tables_of
tables-outside d bytes disk same =
    let e : Disk = record d { bytes = bytes } in
    let at : (b o p : ℕ) → b < 4 → o < 128 → p ≡ 128 * b + o
    → get_or bytes p 0 ≡ get_or d.bytes p 0 = λ b o p low less is.
    ap (λ (m : ℕ). get_or bytes m 0) is ∙ (same b (omega (arith, disk.least)) (inl low)).bytes o less
    ∙ ap (λ (m : ℕ). get_or d.bytes m 0) (sym is) in
    let inodes : (i o p : ℕ) → i < 16 → o < 16 → p ≡ 256 + 16 * i + o
    → get_or bytes p 0 ≡ get_or d.bytes p 0 = λ i o p less small is.
    elim (half i) [
      | inl h ↦ at 2 (16 * i + o) p (omega arith) (omega arith) (omega arith)
      | inr h ↦ let is_more : i ≡ 8 + h.0 = h.1 in at 3 (16 * h.0 + o) p (omega arith) (omega arith) (omega arith)
    ] in
    let blocks : (b : ℕ) → is_data d b ≡ true → SameBlock d e b = λ b inside. let area = data-block d b inside in
    same_block d e b (same b area.1 (inr area.0)) in
    let gens : (i : ℕ) → i < 16 → generation_of e i ≡ generation_of d i = λ i less.
    generation-same d bytes i (inodes i 2 (258 + 16 * i) less (omega arith) (omega arith)) in
    same_tables _ _ _ _ _ _ _ _ _ _ _ _ _ _
    (within-same 0 16 (kind_of d) (kind_of e) (λ i less. inodes i 0 (256 + 16 * i) less (omega arith) (omega arith)))
    (within-same 0 16 (links_of d) (links_of e) (λ i less. inodes i 1 (257 + 16 * i) less (omega arith) (omega arith)))
    (within-same (λ _. 0) 16 (λ h. within 0 4 (pointer_of d h)) (λ h. within 0 4 (pointer_of e h))
    (λ i less. within-same 0 4 (pointer_of d i) (pointer_of e i)
    (λ s small. inodes i (4 + s) (260 + 16 * i + s) less (omega arith) (omega arith))))
    (within-same false d.blocks (λ h. not (eqb (map_of d h) 0)) (λ h. not (eqb (map_of e h) 0))
    (λ h less. ap (λ (x : ℕ). not (eqb x 0)) (at 1 h (128 + h) (omega arith) (omega (arith, disk.most))
    (omega arith))))
    (fun_ext (λ h. mark-same d bytes h gens (blocks h)))
    (within-same (λ _. Free) 16 (λ dir. within Free 10 (place_of d dir)) (λ dir. within Free 10 (place_of e dir))
    (λ dir less. within-same Free 10 (place_of d dir) (place_of e dir) (λ k small.
    place-same d bytes dir k small (inodes dir 0 (256 + 16 * dir) less (omega arith) (omega arith))
    (inodes dir 4 (260 + 16 * dir + 0) less (omega arith) (omega arith)) (gens dir less)
    (blocks (pointer_of d dir 0)))))
  where
    half : (i : ℕ) → (i < 8) ⊎ ((m : ℕ) × (i ≡ 8 + m))
    half i = elim (cases_lt i 8) [ inl l ↦ inl l | inr g ↦ inr (i - 8, omega arith) ]

pub sound-outside : (d e : Disk) → IsDisk d → IsSound d → e.blocks ≡ d.blocks → e.journal ≡ d.journal
    → e.generations ≡ d.generations
    → length e.bytes ≡ length d.bytes
    → ((b : ℕ) → b < d.blocks → IsOutside d.journal b → block_of e b ≡ block_of d b) → IsSound e
sound-outside d e disk sound bs js gs long same =
    let f : Disk = record d { bytes = e.bytes } in
    let fe : f ≡ e = make d.blocks e.blocks d.journal e.journal d.generations e.generations e.bytes (sym bs) (sym js)
    (sym gs) in
    let f_disk : IsDisk f = record {
      least = disk.least;
      most = disk.most;
      room = disk.room;
      whole = long
          ∙ disk.whole;
    } in
    let blocks : (b : ℕ) → b < d.blocks → IsOutside d.journal b
    → SameBytes d f b = λ b below out. block-bytes d f b (omega (arith, disk.whole, below)) long
    (same b below out) in
    subst IsSound fe (tables-sound f f_disk (subst Sound (sym (tables-outside d e.bytes disk blocks))
    (sound-tables d disk sound)))
  where
    make : (a b i j : ℕ) (g h : Bool) (xs : List ℕ) → a ≡ b → i ≡ j → g ≡ h
        → ◌≡◌ {A = Disk} (record { blocks = a; journal = i; generations = g; bytes = xs })
        (record { blocks = b; journal = j; generations = h; bytes = xs })
    make a b i j g h xs p q r = rw (p, q, r) refl
