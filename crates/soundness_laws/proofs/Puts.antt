-- What a change of bytes does to the tables: one table changes at one number.
use Rattle.std.proofs.Common.{◌≡◌, ◌≢◌, ℕ, ◌+◌, ◌*◌, ◌<◌, ◌≤◌, ◌⊎◌, inl, inr, List, Bool, true, false, ◌&&◌, not, eqb}
use Rattle.std.proofs.Common.{length, take, drop, get_or, arith, refl, sym, ◌∙◌, ap, cond, nat_lt}
use mathlib.Core.Path.{fun_ext}
use Rattle.std.proofs.lemmas.Bool.{cases_eq, cases_Bool, cases_lt, cases_order, eq-eqb, ne_eqb, lt-ltb, le-ltb}
use Rattle.std.proofs.lemmas.Bool.Decides.{nat_tests}
use Rattle.std.proofs.lemmas.Grind.{elements, same_number_lists}
use Rattle.crash_model.specs.Disk.{Disk, IsDisk, byte, overwrite}
use Rattle.crash_model.specs.Layout.{kind_of, links_of, pointer_of, map_of, is_data, is_owned}
use Rattle.crash_model.specs.Generations.{generation_of, mark_generation}
use Rattle.crash_model.proofs.Bytes.{length-overwrite, overwrite-below, overwrite-above}
use Rattle.soundness_laws.specs.Tables.{Tables, Place, Mark, tables_of, place_at, place_of, mark_at, with_value, within}
use Rattle.soundness_laws.specs.Tables.{is_current, KeepsMarks}
use Rattle.soundness_laws.specs.Tables.Mark.{Plain, FileOf, DirectoryOf}
use Rattle.soundness_laws.specs.Tables.Place.{Free}

-- the disk with bytes from a place on
abbrev pub with_bytes_at : Disk → ℕ → List ℕ → Disk
with_bytes_at d at new = record d { bytes = overwrite d.bytes at new }

-- what tables read of a block: not its byte 3
pub record SameBlock (d e : Disk) (b : ℕ) : Type 0 where
  pub bytes : (o : ℕ) → o < 128 → o ≢ 3 → byte e b o ≡ byte d b o
  pub spellings : (o : ℕ) → 8 ≤ o → o + 11 ≤ 128
      → take 11 (drop (128 * b + o) e.bytes) ≡ take 11 (drop (128 * b + o) d.bytes)

-- bytes outside of what is written
pub byte-outside : (xs : List ℕ) (at : ℕ) (new : List ℕ) (j : ℕ) → at + length new ≤ length xs → (j < at)
    ⊎ (at + length new ≤ j) → get_or (overwrite xs at new) j 0 ≡ get_or xs j 0
byte-outside xs at new j fits side = elim side [
  | inl h ↦ overwrite-below xs at new j fits h
  | inr h ↦ overwrite-above xs at new j fits h
]

pub range-outside : (xs : List ℕ) (at : ℕ) (new : List ℕ) (j n : ℕ) → at + length new ≤ length xs → (j + n ≤ at)
    ⊎ (at + length new ≤ j) → take n (drop j (overwrite xs at new)) ≡ take n (drop j xs)
range-outside xs at new j n fits side =
    let same : length (overwrite xs at new) ≡ length xs = length-overwrite xs at new fits in
    same_number_lists _ _ (grind (arith, elements)) (λ k below.
    let least : k < n = grind (arith, elements) in
    let there : get_or (overwrite xs at new) (j + k) 0 ≡ get_or xs (j + k) 0 =
    byte-outside xs at new (j + k) fits (elim side [ inl h ↦ inl (omega arith) | inr h ↦ inr (omega arith) ]) in
    grind (arith, elements))

pub same-block : (d : Disk) (at : ℕ) (new : List ℕ) (b : ℕ) → at + length new ≤ length d.bytes → (128 * b + 128 ≤ at)
    ⊎ (at + length new ≤ 128 * b) → SameBlock d (with_bytes_at d at new) b
same-block d at new b fits side = record {
  bytes = λ o less _. byte-outside d.bytes at new (128 * b + o) fits
      (elim side [ inl h ↦ inl (omega arith) | inr h ↦ inr (omega arith) ]);
  spellings = λ o _ less. range-outside d.bytes at new (128 * b + o) 11 fits
      (elim side [ inl h ↦ inl (omega arith) | inr h ↦ inr (omega arith) ]);
}

abbrev pub place_from : ℕ → Bool → ℕ → Bool → ℕ → List ℕ → Place
place_from kind inside first owned entry spelling =
    place_at (((eqb kind 2 && inside) && eqb first 0x44) && owned) entry spelling

no_data : (kind first entry kind' first' entry' : ℕ) (owned owned' : Bool) (sp sp' : List ℕ)
    → place_from kind false first owned entry sp ≡ place_from kind' false first' owned' entry' sp'
no_data kind first entry kind' first' entry' owned owned' sp sp' =
    none (eqb kind 2) (eqb first 0x44) owned entry sp ∙ sym (none (eqb kind' 2) (eqb first' 0x44) owned' entry' sp')
  where
    none : (a c e : Bool) (n : ℕ) (s : List ℕ) → place_at (((a && false) && c) && e) n s ≡ Free
    none true c e n s = refl
    none false c e n s = refl

pub all_same : (kind kind' : ℕ) (inside inside' : Bool) (first first' : ℕ) (owned owned' : Bool) (entry entry' : ℕ)
    (sp sp' : List ℕ) → kind ≡ kind' → inside ≡ inside' → first ≡ first' → owned ≡ owned' → entry ≡ entry' → sp ≡ sp'
    → place_from kind inside first owned entry sp ≡ place_from kind' inside' first' owned' entry' sp'
all_same kind kind' inside inside' first first' owned owned' entry entry' sp sp' a b c d e f =
    rw (a, b, c, d, e, f) refl

-- ---- generations

-- with other bytes, of which that of the generation is the same
pub generation-same : (d : Disk) (bytes : List ℕ) (i : ℕ)
    → get_or bytes (258 + 16 * i) 0 ≡ get_or d.bytes (258 + 16 * i) 0
    → generation_of (record d { bytes = bytes }) i ≡ generation_of d i
unfolding generation_of
generation-same d bytes i same = ap (λ (x : ℕ). cond d.generations x 0) same

pub mark_generation-same : (d : Disk) (bytes : List ℕ) (b : ℕ) → byte (record d { bytes = bytes }) b 2 ≡ byte d b 2
    → mark_generation (record d { bytes = bytes }) b ≡ mark_generation d b
unfolding mark_generation
mark_generation-same d bytes b same = ap (λ (x : ℕ). cond d.generations x 0) same

owned-same : (second second' mark mark' generation generation' i : ℕ) → second' ≡ second → mark' ≡ mark
    → generation' ≡ generation → (eqb second' i && eqb mark' generation') ≡ (eqb second i && eqb mark generation)
owned-same second second' mark mark' generation generation' i a b c = rw (a, b, c) refl

-- a directory whose inode and block are as they were
pub place-same : (d : Disk) (bytes : List ℕ) (dir k : ℕ) → k < 10
    → kind_of (record d { bytes = bytes }) dir ≡ kind_of d dir
    → pointer_of (record d { bytes = bytes }) dir 0 ≡ pointer_of d dir 0
    → generation_of (record d { bytes = bytes }) dir ≡ generation_of d dir
    → (is_data d (pointer_of d dir 0) ≡ true → SameBlock d (record d { bytes = bytes }) (pointer_of d dir 0))
    → place_of (record d { bytes = bytes }) dir k ≡ place_of d dir k
place-same d bytes dir k less same_kind same_pointer same_generation same =
    let e : Disk = record d { bytes = bytes } in
    let p = pointer_of d dir 0 in
    elim (cases_Bool (is_data d (pointer_of d dir 0))) [
      | inl inside ↦
          let b = same inside in
          let spot : 128 * p + (8 + 12 * k) + 1 ≡ 128 * p + (9 + 12 * k) = omega arith in
          let bs : take 11 (drop (128 * p + (8 + 12 * k) + 1) bytes)
          ≡ take 11 (drop (128 * p + (8 + 12 * k) + 1) d.bytes) =
          rw spot (b.spellings (9 + 12 * k) (omega arith) (omega arith)) in
          let mark : mark_generation e p ≡ mark_generation d p =
          mark_generation-same d bytes p (b.bytes 2 (omega arith) (λ z. omega arith))
          in
          let owned : is_owned e (pointer_of e dir 0) dir ≡ is_owned d p dir =
          ap (λ (x : ℕ). is_owned e x dir) same_pointer
          ∙ owned-same (byte d p 1) (byte e p 1) (mark_generation d p) (mark_generation e p) (generation_of d dir)
          (generation_of e dir) dir (b.bytes 1 (omega arith) (λ z. omega arith)) mark same_generation in
          all_same _ _ _ _ _ _ _ _ _ _ _ _
          same_kind
          (ap (is_data d) same_pointer)
          (ap (λ (x : ℕ). byte e x 0) same_pointer ∙ b.bytes 0 (omega arith) (λ z. omega arith))
          owned
          (ap (λ (x : ℕ). byte e x (8 + 12 * k)) same_pointer ∙ b.bytes (8 + 12 * k) (omega arith) (λ z. omega arith))
          (ap (λ (x : ℕ). take 11 (drop (128 * x + (8 + 12 * k) + 1) bytes)) same_pointer ∙ bs)
      | inr outside ↦
          let there : is_data d (pointer_of e dir 0) ≡ false = ap (is_data d) same_pointer ∙ outside in
          rw (outside, there) (no_data _ _ _ _ _ _ _ _ _ _)
    ]

current-same : (inside : Bool) (second second' mark mark' : ℕ) (generation generation' : ℕ → ℕ) → second' ≡ second
    → mark' ≡ mark → (second < 16 → generation' second ≡ generation second)
    → (inside && (nat_lt second' 16 && eqb mark' (generation' second')))
    ≡ (inside && (nat_lt second 16 && eqb mark (generation second)))
current-same inside second second' mark mark' generation generation' a b c = elim (cases_lt second 16) [
  | inl less ↦ rw (a, b, c less) refl
  | inr more ↦ rw (a, le-ltb second 16 more) refl
]

-- a mark whose bytes are as they were, and so is the generation of its inode
pub mark-kept : (d : Disk) (bytes : List ℕ) (b : ℕ) → (let e : Disk = record d { bytes = bytes } in
    (byte d b 1 < 16 → generation_of e (byte d b 1) ≡ generation_of d (byte d b 1))
    → (is_data d b ≡ true → (o : ℕ) → o < 3 → byte e b o ≡ byte d b o)
    → mark_at (is_current e b) (byte e b 0) (byte e b 1) ≡ mark_at (is_current d b) (byte d b 0) (byte d b 1))
mark-kept d bytes b generations same = elim (cases_Bool (is_data d b)) [
  | inl inside ↦
      let e : Disk = record d { bytes = bytes } in
      let s = same inside in
      let mark : mark_generation e b ≡ mark_generation d b = mark_generation-same d bytes b (s 2 (omega arith)) in
      let current : is_current e b ≡ is_current d b = current-same (is_data d b) (byte d b 1) (byte e b 1)
      (mark_generation d b) (mark_generation e b) (generation_of d) (generation_of e) (s 1 (omega arith)) mark
      generations in
      rw (current, s 0 (omega arith), s 1 (omega arith)) refl
  | inr outside ↦ rw outside refl
]

pub mark-same : (d : Disk) (bytes : List ℕ) (b : ℕ) → (let e : Disk = record d { bytes = bytes } in
    ((i : ℕ) → i < 16 → generation_of e i ≡ generation_of d i)
    → (is_data d b ≡ true → SameBlock d e b)
    → mark_at (is_current e b) (byte e b 0) (byte e b 1) ≡ mark_at (is_current d b) (byte d b 0) (byte d b 1))
mark-same d bytes b generations same = mark-kept d bytes b (λ less. generations (byte d b 1) less)
    (λ inside o less. (same inside).bytes o (omega arith) (λ z. omega arith))

-- ---- functions on a range

pub within-with_value : {X : Type 0} (none : X) (n i : ℕ) (f g : ℕ → X) → i < n → ((j : ℕ) → j < n → j ≢ i → g j ≡ f j)
    → within none n g ≡ with_value (within none n f) i (g i)
within-with_value none n i f g below same = fun_ext (λ j. elim (cases_eq j i) [
  | inl here ↦ rw (eq-eqb j i here, here, lt-ltb i n below) refl
  | inr there ↦ rw (ne_eqb j i there) (elim (cases_lt j n) [
    | inl less ↦ rw (lt-ltb j n less) (same j less there)
    | inr more ↦ rw (le-ltb j n more) refl
  ])
])

pub within-same : {X : Type 0} (none : X) (n : ℕ) (f g : ℕ → X) → ((j : ℕ) → j < n → g j ≡ f j)
    → within none n g ≡ within none n f
within-same none n f g same = fun_ext (λ j. elim (cases_lt j n) [
  | inl less ↦ rw (lt-ltb j n less) (same j less)
  | inr more ↦ rw (le-ltb j n more) refl
])

pub with_value-kept : {X : Type 0} (f : ℕ → X) (i : ℕ) (v : X) → v ≡ f i → with_value f i v ≡ f
with_value-kept f i v same = fun_ext (λ j. elim (cases_eq j i) [
  | inl here ↦ rw (eq-eqb j i here) (same ∙ ap f (sym here))
  | inr there ↦ rw (ne_eqb j i there) refl
])

pub same_tables : (blocks journal : ℕ) (kind kind' links links' : ℕ → ℕ) (pointer pointer' : ℕ → ℕ → ℕ)
    (used used' : ℕ → Bool) (mark mark' : ℕ → Mark) (entry entry' : ℕ → ℕ → Place)
    → kind ≡ kind' → links ≡ links' → pointer ≡ pointer' → used ≡ used' → mark ≡ mark' → entry ≡ entry'
    → ◌≡◌ {A = Tables} (record {
      blocks = blocks;
      journal = journal;
      kind = kind;
      links = links;
      pointer = pointer;
      used = used;
      mark = mark;
      entry = entry;
    })
    (record {
      blocks = blocks;
      journal = journal;
      kind = kind';
      links = links';
      pointer = pointer';
      used = used';
      mark = mark';
      entry = entry';
    })
same_tables blocks journal kind kind' links links' pointer pointer' used used' mark mark' entry entry' a b c d e f =
    rw (a, b, c, d, e, f) refl

-- ---- the owner of a mark

pub file-owner : (inside : Bool) (x y i : ℕ) → mark_at inside x y ≡ FileOf i → y ≡ i
file-owner false x y i r = cc
file-owner true x y i r = elim (cases_eq x 0x46) [
  | inl file ↦ let same : FileOf y ≡ FileOf i = rw (eq-eqb x 0x46 file) at r in cc
  | inr other ↦ elim (cases_eq x 0x44) [
    | inl dir ↦ absurd (let bad : DirectoryOf y ≡ FileOf i = rw (ne_eqb x 0x46 other, eq-eqb x 0x44 dir) at r in cc)
    | inr neither ↦ absurd (let bad : Plain ≡ FileOf i = rw (ne_eqb x 0x46 other, ne_eqb x 0x44 neither) at r in cc)
  ]
]

pub directory-owner : (inside : Bool) (x y i : ℕ) → mark_at inside x y ≡ DirectoryOf i → y ≡ i
directory-owner false x y i r = cc
directory-owner true x y i r = elim (cases_eq x 0x46) [
  | inl file ↦ absurd (let bad : FileOf y ≡ DirectoryOf i = rw (eq-eqb x 0x46 file) at r in cc)
  | inr other ↦ elim (cases_eq x 0x44) [
    | inl dir ↦ let same : DirectoryOf y ≡ DirectoryOf i = rw (ne_eqb x 0x46 other, eq-eqb x 0x44 dir) at r in cc
    | inr neither ↦ absurd (let bad : Plain ≡ DirectoryOf i = rw (ne_eqb x 0x46 other, ne_eqb x 0x44 neither) at r
        in cc)
  ]
]

-- ---- a change in an inode

pub data-block : (d : Disk) (b : ℕ) → is_data d b ≡ true → (4 + d.journal ≤ b) × (b < d.blocks)
data-block d b inside = (grind (arith, nat_tests), grind (arith, nat_tests))

pub inode-other : (d : Disk) (i from : ℕ) (new : List ℕ) (j o p : ℕ) → IsDisk d → i < 16 → from + length new ≤ 16
    → j ≢ i → o < 16 → p ≡ 256 + 16 * j + o
    → get_or (overwrite d.bytes (256 + 16 * i + from) new) p 0 ≡ get_or d.bytes p 0
inode-other d i from new j o p disk below fits other less e =
    let inside : 256 + 16 * i + from + length new ≤ length d.bytes = omega (arith, disk.whole, disk.least) in
    byte-outside d.bytes (256 + 16 * i + from) new p inside (elim (cases_order j i) [
      | inl e ↦ absurd (other e)
      | inr ne ↦ elim ne [ inl h ↦ inl (omega arith) | inr h ↦ inr (omega arith) ]
    ])

-- the other inodes have their generations
generation-other : (d : Disk) (i from : ℕ) (new : List ℕ) (j : ℕ) → IsDisk d → i < 16 → from + length new ≤ 16 → j ≢ i
    → generation_of (with_bytes_at d (256 + 16 * i + from) new) j ≡ generation_of d j
generation-other d i from new j disk below fits other =
    generation-same d (overwrite d.bytes (256 + 16 * i + from) new) j
    (inode-other d i from new j 2 (258 + 16 * j) disk below fits other (omega arith) (omega arith))

-- a mark of another inode is as it was, and where the inode's generation is, so is each mark
mark-inode : (d : Disk) (i from : ℕ) (new : List ℕ) (b : ℕ) → IsDisk d → i < 16 → from + length new ≤ 16
    → (let e = with_bytes_at d (256 + 16 * i + from) new in
    (byte d b 1 ≢ i) ⊎ (generation_of e i ≡ generation_of d i)
    → mark_at (is_current e b) (byte e b 0) (byte e b 1) ≡ mark_at (is_current d b) (byte d b 0) (byte d b 1))
mark-inode d i from new b disk below fits why =
    let at = 256 + 16 * i + from in
    let e = with_bytes_at d at new in
    let inside : at + length new ≤ length d.bytes = omega (arith, disk.whole, disk.least) in
    mark-kept d e.bytes b (λ _. elim (cases_eq (byte d b 1) i) [
      | inl here ↦ elim why [
        | inl other ↦ absurd (other here)
        | inr same ↦ ap (generation_of e) here ∙ same ∙ ap (generation_of d) (sym here)
      ]
      | inr other ↦ generation-other d i from new (byte d b 1) disk below fits other
    ])
    (λ h o less. (same-block d at new b inside (inr (let p = data-block d b h in omega arith))).bytes o (omega arith)
    (λ z. omega arith))

pub marks-inode : (d : Disk) (i from : ℕ) (new : List ℕ) → IsDisk d → i < 16 → from + length new ≤ 16
    → (let e = with_bytes_at d (256 + 16 * i + from) new in
    generation_of e i ≡ generation_of d i → (tables_of e).mark ≡ (tables_of d).mark)
unfolding tables_of
marks-inode d i from new disk below fits same = fun_ext (λ b. mark-inode d i from new b disk below fits (inr same))

pub marks-kept : (d : Disk) (i from : ℕ) (new : List ℕ) → IsDisk d → i < 16 → from + length new ≤ 16
    → KeepsMarks (tables_of d).mark (tables_of (with_bytes_at d (256 + 16 * i + from) new)).mark i
unfolding tables_of
marks-kept d i from new disk below fits =
    let e = with_bytes_at d (256 + 16 * i + from) new in
    record {
      files = λ b j other is. mark-inode d i from new b disk below fits
          (inl (λ same. other (sym (file-owner (is_current d b) (byte d b 0) (byte d b 1) j is) ∙ same))) ∙ is;
      directories = λ b j other is. mark-inode d i from new b disk below fits
          (inl (λ same. other (sym (directory-owner (is_current d b) (byte d b 0) (byte d b 1) j is) ∙ same))) ∙ is;
    }

-- only one row of the inodes changes, and the marks of its blocks, where the inode's own places stay as they were
pub tables-inode : (d : Disk) (i from : ℕ) (new : List ℕ) → IsDisk d → i < 16 → from + length new ≤ 16
    → ((k : ℕ) → k < 10 → place_of (with_bytes_at d (256 + 16 * i + from) new) i k ≡ place_of d i k)
    → tables_of (with_bytes_at d (256 + 16 * i + from) new)
    ≡ record (tables_of d) {
      kind = with_value (tables_of d).kind i (kind_of (with_bytes_at d (256 + 16 * i + from) new) i);
      links = with_value (tables_of d).links i (links_of (with_bytes_at d (256 + 16 * i + from) new) i);
      pointer = with_value (tables_of d).pointer i (within 0 4
          (pointer_of (with_bytes_at d (256 + 16 * i + from) new) i));
      mark = (tables_of (with_bytes_at d (256 + 16 * i + from) new)).mark;
    }
unfolding tables_of
tables-inode d i from new disk below fits own =
    let e = with_bytes_at d (256 + 16 * i + from) new in
    let inside : 256 + 16 * i + from + length new ≤ length d.bytes = omega (arith, disk.whole, disk.least) in
    same_tables _ _ _ _ _ _ _ _ _ _ _ _ _ _
    (within-with_value 0 16 i (kind_of d) (kind_of e) below
    (λ j less other. inode-other d i from new j 0 (256 + 16 * j) disk below fits other (omega arith) (omega arith)))
    (within-with_value 0 16 i (links_of d) (links_of e) below
    (λ j less other. inode-other d i from new j 1 (257 + 16 * j) disk below fits other (omega arith) (omega arith)))
    (within-with_value (λ _. 0) 16 i (λ h. within 0 4 (pointer_of d h)) (λ h. within 0 4 (pointer_of e h)) below
    (λ j less other. within-same 0 4 (pointer_of d j) (pointer_of e j)
    (λ s small. inode-other d i from new j (4 + s) (260 + 16 * j + s) disk below fits other (omega arith)
    (omega arith))))
    (within-same false d.blocks (λ b. not (eqb (map_of d b) 0)) (λ b. not (eqb (map_of e b) 0))
    (λ b less. ap (λ (x : ℕ). not (eqb x 0)) (byte-outside d.bytes (256 + 16 * i + from) new (128 + b) inside
    (inl (omega (arith, disk.most))))))
    refl
    (within-same (λ _. Free) 16 (λ dir. within Free 10 (place_of d dir)) (λ dir. within Free 10 (place_of e dir))
    (λ dir less. within-same Free 10 (place_of d dir) (place_of e dir) (λ k small. elim (cases_eq dir i) [
      | inl here ↦ rw here (own k small)
      | inr other ↦ place-same d e.bytes dir k small
          (inode-other d i from new dir 0 (256 + 16 * dir) disk below fits other (omega arith) (omega arith))
          (inode-other d i from new dir 4 (260 + 16 * dir + 0) disk below fits other (omega arith) (omega arith))
          (generation-other d i from new dir disk below fits other)
          (λ h. same-block d (256 + 16 * i + from) new (pointer_of d dir 0) inside
          (inr (let p = data-block d (pointer_of d dir 0) h in omega arith)))
    ])))
