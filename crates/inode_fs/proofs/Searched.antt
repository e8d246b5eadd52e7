-- What the searches found on a sound disk, said of its tables.
use Rattle.std.proofs.Common.{◌≡◌, ◌≢◌, ℕ, ◌+◌, ◌<◌, ◌≤◌, List, Bool, true, false, ◌&&◌, not, eqb, Some, None, Ok}
use Rattle.std.proofs.Common.{arith, refl, sym, ◌∙◌, ap}
use Rattle.std.proofs.lemmas.Bool.{eqb-true, eqb-false, false≢true}
use Rattle.std.proofs.lemmas.Bool.Decides.{nat_tests}
use Rattle.std.proofs.lemmas.Slice.Eq.{bytes_eq-Decides}
use Rattle.crash_model.specs.Disk.{Disk}
use Rattle.crash_model.specs.Names.{IsName}
use Rattle.crash_model.specs.Layout.{kind_of, pointer_of, map_of, is_data, is_live, is_entry, target_of, counts}
use Rattle.crash_model.specs.Layout.{entry_of, spelling_of}
use Rattle.crash_model.specs.Plan.{name_spelling, is_named, entry_named, walk_end, is_free_entry, free_entry}
use Rattle.crash_model.specs.Plan.{is_free_inode, free_inode, is_free_block, free_block, is_free_slot, free_slot}
use Rattle.soundness_laws.specs.Tables.{tables_of, place_of, Sound}
use Rattle.soundness_laws.specs.Tables.Place.{Free, Leads}
use Rattle.soundness_laws.proofs.Searches.{first_below-is_none, first_below-is_some}
use Rattle.soundness_laws.proofs.Puts.{data-block}
use Rattle.soundness_laws.proofs.ByTables.{kind-at, pointer-at, entry-at, live-at, EntryBytes, entry-bytes}
use Rattle.soundness_laws.proofs.ByTables.{walk_end-is_ok}
use Rattle.soundness_laws.proofs.Views.{used-at, place-leads, entry-is}
use Rattle.soundness_laws.proofs.Inodes.{IsFresh}
use Rattle.soundness_laws.proofs.Kept.{IsPlace}

-- ---- what is free

pub fresh-found : (d : Disk) (i kind : ℕ) → free_inode d ≡ Some i → (1 ≤ kind) × (kind < 3)
    → IsFresh (tables_of d) i kind
fresh-found d i kind e a_kind =
    let f = first_below-is_some 16 (is_free_inode d) i e in
    record { below = f.below; free = kind-at d i f.below ∙ eqb-true (kind_of d i) 0 f.holds; a_kind = a_kind }

-- every lower inode is live
pub fresh-lowest : (d : Disk) (i : ℕ) → free_inode d ≡ Some i → (j : ℕ) → j < i → (tables_of d).kind j ≢ 0
fresh-lowest d i e j less z =
    let f = first_below-is_some 16 (is_free_inode d) i e in
    let below = f.below in
    eqb-false (kind_of d j) 0 (f.lower j less) (sym (kind-at d j (omega arith)) ∙ z)

pub record FreeBlock (d : Disk) (b : ℕ) : Type 0 where
  pub free : (tables_of d).used b ≡ false
  pub low : 4 + d.journal ≤ b
  pub high : b < d.blocks
  pub lower : (c : ℕ) → 4 + d.journal ≤ c → c < b → (tables_of d).used c ≡ true

pub block-found : (d : Disk) (b : ℕ) → free_block d ≡ Some b → FreeBlock d b
block-found d b e =
    let f = first_below-is_some d.blocks (is_free_block d) b e in
    let inside : is_data d b ≡ true = left (is_data d b) (eqb (map_of d b) 0) f.holds in
    let own = data-block d b inside in
    let zero_byte : eqb (map_of d b) 0 ≡ true = right (is_data d b) (eqb (map_of d b) 0) f.holds in
    record {
      free = used-at d b own.1 ∙ ap not zero_byte;
      low = own.0;
      high = own.1;
      lower = λ c low less.
          let below : c < d.blocks = omega (arith, own.1) in
          used-at d c below ∙ ap not (used (map_of d c) c low below (f.lower c less));
    }
  where
    left : (a b : Bool) → (a && b) ≡ true → a ≡ true
    left true b e = refl
    left false b e = cc

    right : (a b : Bool) → (a && b) ≡ true → b ≡ true
    right true b e = e
    right false b e = cc

    used : (byte c : ℕ) → 4 + d.journal ≤ c → c < d.blocks → (is_data d c && eqb byte 0) ≡ false → eqb byte 0 ≡ false
    used byte c low below e = grind (arith, nat_tests)

pub record FreeSlot (d : Disk) (i s : ℕ) : Type 0 where
  pub below : s < 4
  pub empty : (tables_of d).pointer i s ≡ 0
  pub lower : (r : ℕ) → r < s → (tables_of d).pointer i r ≢ 0

pub slot-found : (d : Disk) (i s : ℕ) → i < 16 → free_slot d i ≡ Some s → FreeSlot d i s
slot-found d i s in_i e =
    let f = first_below-is_some 4 (is_free_slot d i) s e in
    let below = f.below in
    record {
      below = below;
      empty = pointer-at d i s in_i below ∙ eqb-true (pointer_of d i s) 0 f.holds;
      lower = λ r less z. eqb-false (pointer_of d i r) 0 (f.lower r less)
          (sym (pointer-at d i r in_i (omega arith)) ∙ z);
    }

-- ---- names

-- the entry of a name that was found
pub record NamedEntry (d : Disk) (dir : ℕ) (name : List ℕ) (k : ℕ) : Type 0 where
  pub below : k < 10
  pub counting : counts d dir ≡ true
  pub target_below : target_of d dir k < 16
  pub leads : (tables_of d).entry dir k ≡ Leads (target_of d dir k) (name_spelling name)

pub named-found : (d : Disk) (dir : ℕ) (name : List ℕ) (k : ℕ) → dir < 16 → entry_named d dir name ≡ Some k
    → NamedEntry d dir name k
named-found d dir name k in_dir e =
    let f = first_below-is_some 10 (is_named d dir name) k e in
    let parts = three (is_entry d dir k) (is_live d (target_of d dir k)) _ f.holds in
    let entry : is_entry d dir k ≡ true = parts.0 in
    let live : is_live d (target_of d dir k) ≡ true = parts.1 in
    let spelling : spelling_of d dir k ≡ name_spelling name =
    (bytes_eq-Decides (spelling_of d dir k) (name_spelling name)).0 parts.2 in
    record {
      below = f.below;
      counting = grind (arith, nat_tests);
      target_below = grind (arith, nat_tests);
      leads = entry-at d dir k in_dir f.below ∙ place-leads d dir k entry ∙ ap (Leads (target_of d dir k)) spelling;
    }
  where
    three : (a b c : Bool) → ((a && b) && c) ≡ true → (a ≡ true) × (b ≡ true) × (c ≡ true)
    three true true c e = (refl, refl, e)
    three true false c e = cc
    three false b c e = cc

pub named-by : (d : Disk) (dir m j : ℕ) (name : List ℕ) → EntryBytes d dir m j (name_spelling name) → is_live d j ≡ true
    → is_named d dir name m ≡ true
named-by d dir m j name b live =
    let is = entry-is d dir m j (name_spelling name) b in
    let spelt = (bytes_eq-Decides (spelling_of d dir m) (name_spelling name)).1 b.spelt in
    let lives : is_live d (target_of d dir m) ≡ true = ap (is_live d) is.1 ∙ live in
    rw (is.0, lives, spelt) refl

pub absent-found : (d : Disk) (dir : ℕ) (name : List ℕ) → Sound (tables_of d) → entry_named d dir name ≡ None
    → (m j : ℕ) → (tables_of d).entry dir m ≢ Leads j (name_spelling name)
absent-found d dir name sound none m j e =
    let b = entry-bytes d dir m j (name_spelling name) e in
    let live = live-at d j (sound.names.no_dangling dir m j (name_spelling name) e) in
    false≢true (sym (first_below-is_none 10 (is_named d dir name) none m b.in_place) ∙ named-by d dir m j name b live.1)

-- ---- directories

pub record Walked (d : Disk) (dir : ℕ) : Type 0 where
  pub below : dir < 16
  pub kind : (tables_of d).kind dir ≡ 2

pub walk-found : (d : Disk) (names : List (List ℕ)) (dir : ℕ) → Sound (tables_of d) → walk_end d 0 names ≡ Ok dir
    → Walked d dir
walk-found d names dir sound e =
    let root : kind_of d 0 ≡ 2 = sym (kind-at d 0 (omega arith)) ∙ sound.inodes.root.0 in
    let w = walk_end-is_ok d 0 names dir (omega arith) root e in
    record { below = w.0; kind = kind-at d dir w.0 ∙ w.1 }

-- the place of a new name
pub place-found : (d : Disk) (dir k : ℕ) (name : List ℕ) → Sound (tables_of d) → IsName name → Walked d dir
    → free_entry d dir ≡ Some k → entry_named d dir name ≡ None → IsPlace (tables_of d) dir k name
place-found d dir k name sound is_name walk e none =
    let f = first_below-is_some 10 (is_free_entry d dir) k e in
    record {
      free = entry-at d dir k walk.below f.below ∙ free_place d dir k f.holds;
      in_place = f.below;
      parent = walk.kind;
      is_name = is_name;
      absent = absent-found d dir name sound none;
    }
  where
    free_place : (d : Disk) (dir k : ℕ) → is_free_entry d dir k ≡ true → place_of d dir k ≡ Free
    free_place d dir k e =
        let c : counts d dir ≡ true = grind (arith, nat_tests) in
        let z : entry_of d dir k ≡ 0 = grind (arith, nat_tests) in
        rw (c, z) refl
