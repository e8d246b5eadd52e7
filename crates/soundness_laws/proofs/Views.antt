-- The view of a disk is that of its tables.
use Rattle.std.proofs.Common.{◌≡◌, ◌≢◌, ℕ, zero, suc, ◌+◌, ◌-◌, ◌<◌, inl, inr, List, Bool, true, false, ◌&&◌, not, eqb}
use Rattle.std.proofs.Common.{arith, refl, sym, ◌∙◌, ap}
use Rattle.std.proofs.lemmas.Bool.{cases_lt, ne_eqb, lt-ltb, le-ltb, le-leb, eqb-false}
use Rattle.std.proofs.lemmas.Bool.Decides.{nat_tests}
use Rattle.crash_model.specs.Disk.{Disk}
use Rattle.crash_model.specs.Layout.{kind_of, links_of, pointer_of, map_of, is_entry, target_of, counts, entry_of}
use Rattle.crash_model.specs.Layout.{spelling_of}
use Rattle.crash_model.specs.Plan.{name_spelling}
use Rattle.crash_model.specs.View.{HasName, HasInode, HasPointer, IsUsed, view_of}
use Rattle.soundness_laws.specs.Tables.{tables_of, place_at, place_of, NameIn, InodeIn, HasPointer as PointerIn, UsedIn}
use Rattle.soundness_laws.specs.Tables.{view, SameView}
use Rattle.soundness_laws.specs.Tables.Place.{Leads}
use Rattle.soundness_laws.proofs.ByTables.{kind-at, pointer-at, entry-at, live-at, EntryBytes, entry-bytes}
use Rattle.soundness_laws.proofs.Puts.{data-block}

-- ---- reads of the tables

pub links-at : (d : Disk) (i : ℕ) → i < 16 → (tables_of d).links i ≡ links_of d i
unfolding tables_of
links-at d i below = rw (lt-ltb i 16 below) refl

pub used-at : (d : Disk) (b : ℕ) → b < d.blocks → (tables_of d).used b ≡ not (eqb (map_of d b) 0)
unfolding tables_of
used-at d b below = rw (lt-ltb b d.blocks below) refl

pub used-below : (d : Disk) (b : ℕ) → (tables_of d).used b ≡ true → (b < d.blocks) × (map_of d b ≢ 0)
unfolding tables_of
used-below d b e = elim (cases_lt b d.blocks) [
  | inl less ↦ (less, eqb-false (map_of d b) 0 (opposite (eqb (map_of d b) 0) (rw (lt-ltb b d.blocks less) at e)))
  | inr more ↦ absurd (let no : false ≡ true = rw (le-ltb b d.blocks more) at e in cc)
]
  where
    opposite : (b : Bool) → not b ≡ true → b ≡ false
    opposite true e = cc
    opposite false e = refl

pub pointer-below : (d : Disk) (i s : ℕ) → (tables_of d).pointer i s ≢ 0 → (i < 16) × (s < 4)
unfolding tables_of
pointer-below d i s some = elim (cases_lt i 16) [
  | inl less ↦ elim (cases_lt s 4) [
    | inl small ↦ (less, small)
    | inr large ↦ absurd (some (rw (lt-ltb i 16 less, le-ltb s 4 large) refl))
  ]
  | inr more ↦ absurd (some (rw (le-ltb i 16 more) refl))
]

pub place-leads : (d : Disk) (dir k : ℕ) → is_entry d dir k ≡ true
    → place_of d dir k ≡ Leads (target_of d dir k) (spelling_of d dir k)
place-leads d dir k e = go (counts d dir) (entry_of d dir k) e
  where
    go : (b : Bool) (n : ℕ) → (b && not (eqb n 0)) ≡ true
        → place_at b n (spelling_of d dir k) ≡ Leads (n - 1) (spelling_of d dir k)
    go false n e = cc
    go true zero e = cc
    go true (suc n) e = let same : n ≡ suc n - 1 = omega arith in ap (λ (x : ℕ). Leads x (spelling_of d dir k)) same

pub entry-is : (d : Disk) (dir k i : ℕ) (spelling : List ℕ) → EntryBytes d dir k i spelling → (is_entry d dir k ≡ true)
    × (target_of d dir k ≡ i)
entry-is d dir k i spelling b =
    let first = b.first in
    (rw (b.counting, ne_eqb (entry_of d dir k) 0 (λ z. omega (arith, first))) refl, omega (arith, first))

-- ---- the four relations

name-to : (d : Disk) (dir : ℕ) (name : List ℕ) (i : ℕ) → HasName d dir name i → NameIn (tables_of d) dir name i
name-to d dir name i h = (
  h.place,
  entry-at d dir h.place h.within.0 h.within.1 ∙ place-leads d dir h.place h.used
      ∙ ap (λ (x : ℕ). Leads x (spelling_of d dir h.place)) h.target ∙ ap (Leads i) h.spelt,
)

name-from : (d : Disk) (dir : ℕ) (name : List ℕ) (i : ℕ) → NameIn (tables_of d) dir name i → HasName d dir name i
name-from d dir name i n =
    let b = entry-bytes d dir n.0 i (name_spelling name) n.1 in
    let is = entry-is d dir n.0 i (name_spelling name) b in
    record { place = n.0; within = (b.in_dir, b.in_place); used = is.0; spelt = b.spelt; target = is.1 }

inode-to : (d : Disk) (i kind links : ℕ) → HasInode d i kind links → InodeIn (tables_of d) i kind links
inode-to d i kind links h =
    let less : i < 16 = grind (arith, nat_tests, h.live) in
    let some : kind_of d i ≢ 0 = grind (arith, nat_tests, h.live) in
    (kind-at d i less ∙ h.kind_is, links-at d i less ∙ h.links_are, λ z. some (h.kind_is ∙ z))

inode-from : (d : Disk) (i kind links : ℕ) → InodeIn (tables_of d) i kind links → HasInode d i kind links
inode-from d i kind links n =
    let live = live-at d i (λ z. n.2 (sym n.0 ∙ z)) in
    record { live = live.1; kind_is = sym (kind-at d i live.0) ∙ n.0; links_are = sym (links-at d i live.0) ∙ n.1 }

pointer-to : (d : Disk) (i s b : ℕ) → HasPointer d i s b → PointerIn (tables_of d).kind (tables_of d).pointer i s b
pointer-to d i s b h =
    let less : i < 16 = grind (arith, nat_tests, h.used) in
    let some : kind_of d i ≢ 0 = grind (arith, nat_tests, h.used) in
    let named : pointer_of d i s ≢ 0 = grind (arith, nat_tests, h.used) in
    (λ z. some (sym (kind-at d i less) ∙ z), pointer-at d i s less h.within ∙ h.block_is, λ z. named (h.block_is ∙ z))

pointer-from : (d : Disk) (i s b : ℕ) → PointerIn (tables_of d).kind (tables_of d).pointer i s b → HasPointer d i s b
pointer-from d i s b n =
    let at = pointer-below d i s (λ z. n.2 (sym n.1 ∙ z)) in
    let live = live-at d i n.0 in
    let is : pointer_of d i s ≡ b = sym (pointer-at d i s at.0 at.1) ∙ n.1 in
    record {
      within = at.1;
      used = rw (live.1, ne_eqb (pointer_of d i s) 0 (λ z. n.2 (sym is ∙ z))) refl;
      block_is = is;
    }

used-to : (d : Disk) (b : ℕ) → IsUsed d b → UsedIn (tables_of d) b
unfolding tables_of
used-to d b h = let own = data-block d b h.data_area in
    (own.0, rw (lt-ltb b d.blocks own.1, ne_eqb (map_of d b) 0 h.marked) refl)

used-from : (d : Disk) (b : ℕ) → UsedIn (tables_of d) b → IsUsed d b
unfolding tables_of
used-from d b n = let u = used-below d b n.1 in record {
  data_area =
      rw (le-leb (4 + d.journal) b n.0, lt-ltb b d.blocks u.0) refl;
  marked = u.1;
}

pub same-view : (d : Disk) → SameView (view_of d) (view (tables_of d))
same-view d = record {
  names = λ dir name i. (name-to d dir name i, name-from d dir name i);
  inodes = λ i kind links. (inode-to d i kind links, inode-from d i kind links);
  pointers = λ i s b. (pointer-to d i s b, pointer-from d i s b);
  used_blocks = λ b. (used-to d b, used-from d b);
}
