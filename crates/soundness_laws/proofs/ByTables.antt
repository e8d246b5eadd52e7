-- What tables say of the bytes, and what a search found.
use Rattle.std.proofs.Common.{◌≡◌, ◌≢◌, ℕ, zero, suc, ◌+◌, ◌<◌, ◌≤◌, inl, inr, List, Bool, true, false, Ok, length}
use Rattle.std.proofs.Common.{arith, refl, sym, ◌∙◌, ap, subst}
use Rattle.std.specs.Prelude.{[], ◌∷◌}
use Rattle.std.proofs.lemmas.Bool.{cases_eq, cases_lt, eq-eqb, ne_eqb, lt-ltb, le-ltb}
use Rattle.std.proofs.lemmas.Bool.Decides.{nat_tests}
use Rattle.crash_model.specs.Disk.{Disk, IsDisk, byte}
use Rattle.crash_model.specs.Layout.{kind_of, pointer_of, is_data, is_live, target_of, counts, entry_of, spelling_of}
use Rattle.crash_model.specs.Generations.{generation_of, mark_generation}
use Rattle.crash_model.specs.Plan.{is_named, directory_named, walk_end}
use Rattle.crash_model.proofs.Bytes.{length-overwrite}
use Rattle.soundness_laws.specs.Tables.{tables_of, place_at, place_of, mark_at, is_current}
use Rattle.soundness_laws.specs.Tables.Place.{Free, Leads}
use Rattle.soundness_laws.specs.Tables.Mark.{Plain, FileOf, DirectoryOf}
use Rattle.soundness_laws.proofs.Puts.{with_bytes_at}
use Rattle.soundness_laws.proofs.Searches.{first_below-is_some}
use Rattle.soundness_laws.proofs.Answered.{then_ok-ok, directory_named-ok}

-- ---- tables and bytes

pub kind-at : (d : Disk) (i : ℕ) → i < 16 → (tables_of d).kind i ≡ kind_of d i
unfolding tables_of
kind-at d i below = rw (lt-ltb i 16 below) refl

pub pointer-at : (d : Disk) (i s : ℕ) → i < 16 → s < 4 → (tables_of d).pointer i s ≡ pointer_of d i s
unfolding tables_of
pointer-at d i s below small = rw (lt-ltb i 16 below, lt-ltb s 4 small) refl

pub entry-at : (d : Disk) (dir k : ℕ) → dir < 16 → k < 10 → (tables_of d).entry dir k ≡ place_of d dir k
unfolding tables_of
entry-at d dir k below small = rw (lt-ltb dir 16 below, lt-ltb k 10 small) refl

pub live-at : (d : Disk) (i : ℕ) → (tables_of d).kind i ≢ 0 → (i < 16) × (is_live d i ≡ true)
unfolding tables_of
live-at d i live = elim (cases_lt i 16) [
  | inl less ↦
      let some : kind_of d i ≢ 0 = λ z. live (rw (lt-ltb i 16 less) z) in
      (less, rw (lt-ltb i 16 less, ne_eqb (kind_of d i) 0 some) refl)
  | inr more ↦ absurd (live (rw (le-ltb i 16 more) refl))
]

-- an entry in the tables is one of the bytes
pub record EntryBytes (d : Disk) (dir k i : ℕ) (spelling : List ℕ) : Type 0 where
  pub in_dir : dir < 16
  pub in_place : k < 10
  pub counting : counts d dir ≡ true
  pub first : entry_of d dir k ≡ suc i
  pub spelt : spelling_of d dir k ≡ spelling

pub entry-bytes : (d : Disk) (dir k i : ℕ) (spelling : List ℕ) → (tables_of d).entry dir k ≡ Leads i spelling
    → EntryBytes d dir k i spelling
unfolding tables_of
entry-bytes d dir k i spelling e = elim (cases_lt dir 16) [
  | inl less ↦ elim (cases_lt k 10) [
    | inl small ↦ go (counts d dir) refl (entry_of d dir k) refl less small
        (rw (lt-ltb dir 16 less, lt-ltb k 10 small) at e)
    | inr large ↦ absurd (let no_place : Free ≡ Leads i spelling = rw (lt-ltb dir 16 less, le-ltb k 10 large) at e in
        cc)
  ]
  | inr more ↦ absurd (let no_place : Free ≡ Leads i spelling = rw (le-ltb dir 16 more) at e in cc)
]
  where
    go : (b : Bool) → counts d dir ≡ b → (n : ℕ) → entry_of d dir k ≡ n → dir < 16 → k < 10
        → place_at b n (spelling_of d dir k) ≡ Leads i spelling → EntryBytes d dir k i spelling
    go false p n q less small r = cc
    go true p zero q less small r = cc
    go true p (suc m) q less small r = let same : m ≡ i = cc in
        record { in_dir = less; in_place = small; counting = p; first = q ∙ ap suc same; spelt = cc }

-- a directory of the tables counts
pub mark_directory : (d : Disk) (b i : ℕ) → mark_at (is_current d b) (byte d b 0) (byte d b 1) ≡ DirectoryOf i
    → (is_current d b ≡ true) × (byte d b 0 ≡ 0x44) × (byte d b 1 ≡ i)
mark_directory d b i e = go (is_current d b) refl (byte d b 0) (byte d b 1) e
  where
    go : (inside : Bool) → is_current d b ≡ inside → (x y : ℕ) → mark_at inside x y ≡ DirectoryOf i → (inside ≡ true)
        × (x ≡ 0x44) × (y ≡ i)
    go false p x y r = cc
    go true p x y r = elim (cases_eq x 0x46) [
      | inl file ↦ absurd (let no_dir : FileOf y ≡ DirectoryOf i = rw (eq-eqb x 0x46 file) at r in cc)
      | inr other ↦ elim (cases_eq x 0x44) [
        | inl dir ↦ let same : DirectoryOf y ≡ DirectoryOf i = rw (ne_eqb x 0x46 other, eq-eqb x 0x44 dir) at r in
            (refl, dir, cc)
        | inr neither ↦ absurd (let no_dir : Plain ≡ DirectoryOf i = rw (ne_eqb x 0x46 other, ne_eqb x 0x44 neither)
            at r in cc)
      ]
    ]

-- a mark with a generation is in the data area, and the generation is that of its inode
pub current-parts : (d : Disk) (b i : ℕ) → is_current d b ≡ true → byte d b 1 ≡ i → (is_data d b ≡ true)
    × (mark_generation d b ≡ generation_of d i)
current-parts d b i e owner =
    let inside : is_data d b ≡ true = grind (arith, nat_tests) in
    let same : mark_generation d b ≡ generation_of d (byte d b 1) = grind (arith, nat_tests) in
    (inside, same ∙ ap (generation_of d) owner)

pub counts-by_tables : (d : Disk) (dir : ℕ) → dir < 16 → (tables_of d).kind dir ≡ 2
    → (tables_of d).mark ((tables_of d).pointer dir 0) ≡ DirectoryOf dir → counts d dir ≡ true
unfolding tables_of
counts-by_tables d dir below kind mark =
    let k : kind_of d dir ≡ 2 = rw (lt-ltb dir 16 below) at kind in
    let m = mark_directory d (pointer_of d dir 0) dir (rw (lt-ltb dir 16 below) at mark) in
    let current = current-parts d (pointer_of d dir 0) dir m.0 m.2 in
    rw (
      eq-eqb (kind_of d dir) 2 k,
      current.0,
      eq-eqb (byte d (pointer_of d dir 0) 0) 0x44 m.1,
      eq-eqb (byte d (pointer_of d dir 0) 1) dir m.2,
      eq-eqb (mark_generation d (pointer_of d dir 0)) (generation_of d dir) current.1,
    ) refl

pub disk-with_bytes_at : (d : Disk) (at : ℕ) (new : List ℕ) → IsDisk d → at + length new ≤ length d.bytes
    → IsDisk (with_bytes_at d at new)
disk-with_bytes_at d at new disk fits = record {
  least = disk.least;
  most = disk.most;
  room = disk.room;
  whole = length-overwrite d.bytes at new fits ∙ disk.whole;
}

-- ---- walks

pub named-target : (d : Disk) (dir : ℕ) (name : List ℕ) (k : ℕ) → is_named d dir name k ≡ true
    → is_live d (target_of d dir k) ≡ true
named-target d dir name k e = grind (arith, nat_tests)

pub directory_named-is_ok : (d : Disk) (dir : ℕ) (name : List ℕ) (child : ℕ)
    → directory_named d dir name ≡ Ok child → (child < 16) × (kind_of d child ≡ 2)
directory_named-is_ok d dir name child e =
    let at = directory_named-ok d dir name child e in
    let live = named-target d dir name at.k (first_below-is_some 10 (is_named d dir name) at.k at.named).holds in
    let less : target_of d dir at.k < 16 = grind (arith, nat_tests) in
    (subst (λ (x : ℕ). x < 16) at.target less, at.kind)

pub walk_end-is_ok : (d : Disk) (dir : ℕ) (names : List (List ℕ)) (last : ℕ) → dir < 16 → kind_of d dir ≡ 2
    → walk_end d dir names ≡ Ok last → (last < 16) × (kind_of d last ≡ 2)
walk_end-is_ok d dir [] last below two e = let same : dir ≡ last = cc in
    (subst (λ (x : ℕ). x < 16) same below, ap (kind_of d) (sym same) ∙ two)
walk_end-is_ok d dir (name ∷ names) last below two e =
    let step = then_ok-ok (directory_named d dir name) (λ child. walk_end d child names) last e in
    let here = directory_named-is_ok d dir name step.0 step.1 in
    walk_end-is_ok d step.0 names last here.0 here.1 step.2
