-- Entries and slots counted one by one.
use Rattle.std.proofs.Common.{◌≡◌, ℕ, ◌+◌, ◌-◌, List, length, Bool, true, false, not, ◌&&◌}
use Rattle.std.proofs.Common.{Option, Some, None, cond, ◌≤◌, arith, tests, refl, sym, subst, ◌∙◌, ap, length-append}
use Rattle.std.specs.Prelude.{◌==◌, option_to_list}
use Rattle.crash_model.specs.Disk.{Disk}
use Rattle.crash_model.specs.Layout.{counts}
use Rattle.crash_model.specs.Lists.{when, some_below, each_below}
use Rattle.crash_model.specs.Faults.{leads_to, names_block, each_entry, each_slot, entries_to, namers}
use Rattle.crash_model.proofs.EachBelow.{some_below-zero, some_below-step, some_below-none, each_below-zero}
use Rattle.crash_model.proofs.EachBelow.{each_below-step}
use Rattle.crash_model.specs.Patches.{image_of}
use Rattle.known_bytes.specs.Family.{IsMember}
use Rattle.known_bytes.specs.Reading.{Reading, InEachDisk, disk_of}
use Rattle.known_bytes.specs.Counts.{entry_at, slot_at, entries_in, slots_in, AreBounds}

-- ---- one more

pub count_none : {X : Type 0} (at : ℕ → Option X) → length (some_below 0 at) ≡ 0
count_none at = ap (λ (xs : List _). length xs) (some_below-zero at)

pub count_more : {X : Type 0} (n : ℕ) (at : ℕ → Option X)
    → length (some_below (n + 1) at) ≡ length (some_below n at) + length (option_to_list (at n))
count_more n at = rw (some_below-step, length-append) refl

pub count_one : {X : Type 0} (n count : ℕ) (at : ℕ → Option X) (x : X) → at n ≡ Some x
    → length (some_below n at) ≡ count → length (some_below (n + 1) at) ≡ count + 1
count_one n count at x here was = omega (
  arith,
  count_more n at,
  ap (λ (o : Option _). length (option_to_list o)) here,
  was,
)

pub count_same : {X : Type 0} (n count : ℕ) (at : ℕ → Option X) → at n ≡ None
    → length (some_below n at) ≡ count → length (some_below (n + 1) at) ≡ count
count_same n count at here was = omega (
  arith,
  count_more n at,
  ap (λ (o : Option _). length (option_to_list o)) here,
  was,
)

-- rows
pub rows_none : {X : Type 0} (list : ℕ → List X) → length (each_below 0 list) ≡ 0
rows_none list = ap (λ (xs : List _). length xs) (each_below-zero list)

pub rows_more : {X : Type 0} (n count more : ℕ) (list : ℕ → List X) → length (each_below n list) ≡ count
    → length (list n) ≡ more → length (each_below (n + 1) list) ≡ count + more
rows_more n count more list was here =
    let both : length (each_below (n + 1) list) ≡ length (each_below n list) + length (list n) =
    rw (each_below-step, length-append) refl in
    omega (arith, both, was, here)

-- ---- entries

when_true : {X : Type 0} (b : Bool) (x y : X) → when b x ≡ Some y → b ≡ true
when_true true x y e = refl
when_true false x y e = absurd (cc)

when_value : {X : Type 0} (b : Bool) (x y : X) → when b x ≡ Some y → x ≡ y
when_value true x y e = cc
when_value false x y e = absurd (cc)

when_false : {X : Type 0} (b : Bool) (x : X) → when b x ≡ None → b ≡ false
when_false true x e = absurd (cc)
when_false false x e = refl

entry_test : (x inode : ℕ) (b : Bool) → (x == inode + 1) ≡ b → (not (x == 0) && (x - 1 == inode)) ≡ b
entry_test x inode b h = grind (arith, tests)

and_assoc : (x y z : Bool) → ((x && y) && z) ≡ (x && (y && z))
and_assoc true y z = refl
and_assoc false y z = refl

pub none_lead : (d : Disk) (dir inode : ℕ) → counts d dir ≡ false → entries_in 10 d inode dir ≡ 0
none_lead d dir inode here = ap (λ (xs : List (ℕ × ℕ)). length xs)
    (some_below-none 10 (entry_at d inode dir) (λ k less. rw here refl))

pub all_entries : (d : Disk) (inode : ℕ)
    → length (each_below 16 (λ dir. some_below 10 (entry_at d inode dir))) ≡ length (entries_to d inode)
unfolding each_entry entries_to
all_entries d inode = refl

-- ---- slots

pub all_slots : (d : Disk) (block : ℕ)
    → length (each_below 16 (λ inode. some_below 4 (slot_at d block inode))) ≡ length (namers d block)
unfolding each_slot namers
all_slots d block = refl

-- ---- bounds

one_or_none : (b : Bool) (x : ℕ × ℕ) → length (option_to_list (when b x)) ≡ cond b 1 0
one_or_none true x = refl
one_or_none false x = refl

module _ (r : Reading) where
  pub bounds_as : (f g : Disk → ℕ) (least most ask : ℕ) → ((set : ℕ) → IsMember r.family set
      → f (disk_of r (image_of r.family.base r.family.patches set))
      ≡ g (disk_of r (image_of r.family.base r.family.patches set)))
      → AreBounds r f least most ask → AreBounds r g least most ask
  bounds_as f g least most ask same b = record {
    each = λ set m. subst (λ (n : ℕ). (least ≤ n) × (n ≤ most)) (same set m) (b.each set m);
    asked = b.asked;
  }

  pub slots_zero : (block inode least most ask : ℕ) → AreBounds r (λ d. 0) least most ask
      → AreBounds r (λ d. slots_in 0 d block inode) least most ask
  slots_zero block inode least most ask b = bounds_as (λ d. 0) (λ d. slots_in 0 d block inode) least most ask
      (λ set m. sym (count_none (slot_at (disk_of r (image_of r.family.base r.family.patches set)) block inode))) b

  pub slots_more : (block inode slot least most ask : ℕ)
      → AreBounds r (λ d. slots_in slot d block inode + cond (names_block d inode slot block) 1 0) least most ask
      → AreBounds r (λ d. slots_in (slot + 1) d block inode) least most ask
  slots_more block inode slot least most ask b =
      bounds_as (λ d. slots_in slot d block inode + cond (names_block d inode slot block) 1 0)
      (λ d. slots_in (slot + 1) d block inode) least most ask
      (λ set m.
      let d : Disk = disk_of r (image_of r.family.base r.family.patches set) in
      sym (count_more slot (slot_at d block inode)
      ∙ ap (λ (n : ℕ). slots_in slot d block inode + n) (one_or_none (names_block d inode slot block) (inode, slot)))) b

  pub entries_zero : (inode dir least most ask : ℕ) → AreBounds r (λ d. 0) least most ask
      → AreBounds r (λ d. entries_in 0 d inode dir) least most ask
  entries_zero inode dir least most ask b = bounds_as (λ d. 0) (λ d. entries_in 0 d inode dir) least most ask
      (λ set m. sym (count_none (entry_at (disk_of r (image_of r.family.base r.family.patches set)) inode dir))) b

  pub entries_more : (inode dir k least most ask : ℕ)
      → AreBounds r (λ d. entries_in k d inode dir + cond (leads_to d dir k inode) 1 0) least most ask
      → AreBounds r (λ d. entries_in (k + 1) d inode dir) least most ask
  entries_more inode dir k least most ask b =
      bounds_as (λ d. entries_in k d inode dir + cond (leads_to d dir k inode) 1 0)
      (λ d. entries_in (k + 1) d inode dir) least most ask
      (λ set m.
      let d : Disk = disk_of r (image_of r.family.base r.family.patches set) in
      sym (count_more k (entry_at d inode dir)
      ∙ ap (λ (n : ℕ). entries_in k d inode dir + n) (one_or_none (leads_to d dir k inode) (dir, k)))) b

  pub entries_none : (inode dir least most ask : ℕ) → InEachDisk r (λ d. counts d dir ≡ false)
      → AreBounds r (λ d. 0) least most ask → AreBounds r (λ d. entries_in 10 d inode dir) least most ask
  entries_none inode dir least most ask none b = bounds_as (λ d. 0) (λ d. entries_in 10 d inode dir) least most ask
      (λ set m. sym (none_lead (disk_of r (image_of r.family.base r.family.patches set)) dir inode (none set m))) b

  pub inodes_zero : (block least most ask : ℕ) → AreBounds r (λ d. 0) least most ask
      → AreBounds r (λ d. length (each_below 0 (λ inode. some_below 4 (slot_at d block inode)))) least most ask
  inodes_zero block least most ask b =
      bounds_as (λ d. 0) (λ d. length (each_below 0 (λ inode. some_below 4 (slot_at d block inode)))) least most ask
      (λ set m. sym (rows_none (λ inode. some_below 4
      (slot_at (disk_of r (image_of r.family.base r.family.patches set)) block inode)))) b

  pub inodes_more : (block n least most ask : ℕ)
      → AreBounds r (λ d. length (each_below n (λ inode. some_below 4 (slot_at d block inode)))
      + slots_in 4 d block n) least most ask
      → AreBounds r (λ d. length (each_below (n + 1) (λ inode. some_below 4 (slot_at d block inode)))) least most ask
  inodes_more block n least most ask b =
      bounds_as (λ d. length (each_below n (λ inode. some_below 4 (slot_at d block inode))) + slots_in 4 d block n)
      (λ d. length (each_below (n + 1) (λ inode. some_below 4 (slot_at d block inode)))) least most ask
      (λ set m. sym (rows_more n _ _ (λ inode. some_below 4
      (slot_at (disk_of r (image_of r.family.base r.family.patches set)) block inode)) refl refl)) b

  pub inodes_all : (block n least most ask : ℕ) → n ≡ 16
      → AreBounds r (λ d. length (each_below n (λ inode. some_below 4 (slot_at d block inode)))) least most ask
      → AreBounds r (λ d. length (namers d block)) least most ask
  inodes_all block n least most ask end b =
      bounds_as (λ d. length (each_below n (λ inode. some_below 4 (slot_at d block inode))))
      (λ d. length (namers d block))
      least most ask
      (λ set m.
      let d : Disk = disk_of r (image_of r.family.base r.family.patches set) in
      ap (λ (k : ℕ). length (each_below k (λ inode. some_below 4 (slot_at d block inode)))) end
      ∙ all_slots d block) b

  pub dirs_zero : (inode least most ask : ℕ) → AreBounds r (λ d. 0) least most ask
      → AreBounds r (λ d. length (each_below 0 (λ dir. some_below 10 (entry_at d inode dir)))) least most ask
  dirs_zero inode least most ask b =
      bounds_as (λ d. 0) (λ d. length (each_below 0 (λ dir. some_below 10 (entry_at d inode dir)))) least most ask
      (λ set m. sym (rows_none (λ dir. some_below 10
      (entry_at (disk_of r (image_of r.family.base r.family.patches set)) inode dir)))) b

  pub dirs_more : (inode n least most ask : ℕ)
      → AreBounds r (λ d. length (each_below n (λ dir. some_below 10 (entry_at d inode dir)))
      + entries_in 10 d inode n) least most ask
      → AreBounds r (λ d. length (each_below (n + 1) (λ dir. some_below 10 (entry_at d inode dir)))) least most ask
  dirs_more inode n least most ask b =
      bounds_as (λ d. length (each_below n (λ dir. some_below 10 (entry_at d inode dir))) + entries_in 10 d inode n)
      (λ d. length (each_below (n + 1) (λ dir. some_below 10 (entry_at d inode dir)))) least most ask
      (λ set m. sym (rows_more n _ _ (λ dir. some_below 10
      (entry_at (disk_of r (image_of r.family.base r.family.patches set)) inode dir)) refl refl)) b

  pub dirs_all : (inode n least most ask : ℕ) → n ≡ 16
      → AreBounds r (λ d. length (each_below n (λ dir. some_below 10 (entry_at d inode dir)))) least most ask
      → AreBounds r (λ d. length (entries_to d inode)) least most ask
  dirs_all inode n least most ask end b =
      bounds_as (λ d. length (each_below n (λ dir. some_below 10 (entry_at d inode dir))))
      (λ d. length (entries_to d inode)) least most ask
      (λ set m.
      let d : Disk = disk_of r (image_of r.family.base r.family.patches set) in
      ap (λ (k : ℕ). length (each_below k (λ dir. some_below 10 (entry_at d inode dir)))) end
      ∙ all_entries d inode) b
