-- What equals a sound disk outside the journal shows it, and the disk after some operations is one of those that a
-- script passes through.
use Rattle.std.proofs.Common.{◌≡◌, ℕ, zero, suc, ◌+◌, ◌<◌, ◌≤◌, inl, inr, List, [], ◌∷◌, ◌++◌, take, Bool, true, false}
use Rattle.std.proofs.Common.{◌&&◌, ◌||◌, ◌==◌, not, arith, tests, refl, sym, ap, subst, ◌∙◌}
use Rattle.std.specs.Prelude.{nat_le, nat_lt, bytes_eq, if◌then◌else◌}
use Rattle.std.specs.List.{list_any}
use mathlib.Core.Bool.{beq}
use Rattle.std.proofs.lemmas.Bool.{and_parts, or_cases, false≢true}
use Rattle.std.proofs.lemmas.List.Folds.{list_any-append}
use Rattle.std.proofs.lemmas.Slice.Eq.{bytes_eq-Decides}
use Rattle.patch_sets.proofs.Ids.{eq_from_true}
use Rattle.crash_model.specs.Disk.{Disk, IsDisk, block_of}
use Rattle.crash_model.specs.Layout.{pointer_of, is_pointer, is_data}
use Rattle.crash_model.specs.Lists.{when}
use Rattle.crash_model.specs.Plan.{plan_of}
use Rattle.crash_model.specs.StepDisks.{with_plan, disk_after}
use Rattle.crash_model.specs.Sound.{IsSound}
use Rattle.crash_model.specs.Atomic.{is_same_disk, with_disk, disks_from, disks_of, shows, ShowsSome}
use Rattle.crash_model.specs.declared.steps.Act.{Act}
use Rattle.crash_model.specs.declared.steps.Act.TheVariants.{Do, Group, End, Depend, Sync, Fsync, Keep, Hold, Spare}
use Rattle.crash_model.specs.declared.steps.Step.{Step}
use Rattle.crash_model.proofs.Clean.{clean_no_fault}
use Rattle.crash_model.proofs.Shown.{IsPointedTo, compared_from, shows_to}
use Rattle.full_journal_laws.specs.Full.{ops_at, ops_of, after_ops, IsOutside}

-- ---- what equals a sound disk outside the journal

-- a block that a live inode of a sound disk points to is one of the data area
pointed_outside : (d : Disk) (block : ℕ) → IsSound d → IsPointedTo d block → IsOutside d.journal block
pointed_outside d block sound p =
    let tame : is_data d (pointer_of d p.inode p.slot) ≡ true =
    not_wild (is_pointer d p.inode p.slot) (is_data d (pointer_of d p.inode p.slot)) p.points
    ((clean_no_fault d sound.clean).no_wild p.inode p.few p.slot p.less) in
    let inside : is_data d block ≡ true = ap (λ (b : ℕ). is_data d b) (sym p.at) ∙ tame in
    inr (from_le (4 + d.journal) block (and_parts (nat_le (4 + d.journal) block) (nat_lt block d.blocks) inside).0)
  where
    not_wild : (points tame : Bool) → points ≡ true → (points && not tame) ≡ false → tame ≡ true
    not_wild points true is none = refl
    not_wild points false is none = absurd (cc)

    from_le : (a b : ℕ) → nat_le a b ≡ true → a ≤ b
    from_le a b is = grind (arith, tests)

pub sound_shows : (image d : Disk) → IsDisk d → IsSound d
    → ((b : ℕ) → b < d.blocks → IsOutside d.journal b → block_of image b ≡ block_of d b) → shows image d ≡ true
sound_shows image d disk sound same = shows_to image d (λ block below compared.
    (bytes_eq-Decides (block_of image block) (block_of d block)).1
    (same block below (elim (compared_from d block compared) [
      | inl low ↦ inl (omega (arith, low.1))
      | inr p ↦ pointed_outside d block sound p
    ])))

-- ---- the disks that a script passes through

or_left : (a b : Bool) → a ≡ true → (a || b) ≡ true
or_left a b e = rw e refl

or_right : (a b : Bool) → b ≡ true → (a || b) ≡ true
or_right true b e = refl
or_right false b e = e

same_disk : (a b : Disk) → is_same_disk a b ≡ true → a ≡ b
same_disk a b is =
    let disk : ℕ → ℕ → Bool → List ℕ → Disk =
    λ n j g xs. record { blocks = n; journal = j; generations = g; bytes = xs } in
    let one = and_parts (a.blocks == b.blocks) (a.journal == b.journal
    && (beq a.generations b.generations && bytes_eq a.bytes b.bytes)) is in
    let two = and_parts (a.journal == b.journal) (beq a.generations b.generations && bytes_eq a.bytes b.bytes) one.1 in
    let three = and_parts (beq a.generations b.generations) (bytes_eq a.bytes b.bytes) two.1 in
    ap (λ (n : ℕ). disk n a.journal a.generations a.bytes) (eq_from_true a.blocks b.blocks one.0)
    ∙ (ap (λ (j : ℕ). disk b.blocks j a.generations a.bytes) (eq_from_true a.journal b.journal two.0)
    ∙ (ap (λ (g : Bool). disk b.blocks b.journal g a.bytes) (alike a.generations b.generations three.0)
    ∙ ap (λ (xs : List ℕ). disk b.blocks b.journal b.generations xs) ((bytes_eq-Decides a.bytes b.bytes).0 three.1)))
  where
    alike : (g h : Bool) → beq g h ≡ true → g ≡ h
    alike true true e = refl
    alike true false e = absurd (false≢true e)
    alike false true e = absurd (false≢true e)
    alike false false e = refl

module _ (p : Disk → Bool) where
  -- a test that holds of a disk holds of one among those that has it
  among : (d : Disk) (disks : List Disk) → list_any (is_same_disk d) disks ≡ true → p d ≡ true → list_any p disks ≡ true
  among d [] is holds = absurd (false≢true is)
  among d (e ∷ es) is holds = elim (or_cases (is_same_disk d e) (list_any (is_same_disk d) es) is) [
    | inl here ↦ or_left (p e) (list_any p es) (subst (λ (x : Disk). p x ≡ true) (same_disk d e here) holds)
    | inr later ↦ or_right (p e) (list_any p es) (among d es later holds)
  ]

  behind : (disks : List Disk) (d : Disk) → (list_any p disks || p d) ≡ true
      → list_any p (disks ++ d ∷ []) ≡ true
  behind disks d is = list_any-append p disks (d ∷ []) ∙ alone (list_any p disks) (p d) is
    where
      alone : (a b : Bool) → (a || b) ≡ true → (a || (b || false)) ≡ true
      alone true b e = refl
      alone false true e = refl
      alone false false e = e

  -- it holds of one of the disks with one more, where it held of one of them, or where it holds of that one
  with_of : (disks : List Disk) (d : Disk) (there : Bool) → list_any (is_same_disk d) disks ≡ there
      → (list_any p disks || p d) ≡ true → list_any p (if there then disks else disks ++ d ∷ []) ≡ true
  with_of disks d true is some = elim (or_cases (list_any p disks) (p d) some) [
    | inl held ↦ held
    | inr new ↦ among d disks is new
  ]
  with_of disks d false is some = behind disks d some

  with_one : (disks : List Disk) (d : Disk) → (list_any p disks || p d) ≡ true → list_any p (with_disk disks d) ≡ true
  with_one disks d some = with_of disks d (list_any (is_same_disk d) disks) refl some

  old_stay : (disks : List Disk) (d : Disk) (steps : List Step) → list_any p disks ≡ true
      → list_any p (disks_from disks d steps) ≡ true
  old_stay disks d [] held = with_one disks d (or_left (list_any p disks) (p d) held)
  old_stay disks d (x ∷ xs) held = old_stay (with_disk disks d) (disk_after d x.act) xs
      (with_one disks d (or_left (list_any p disks) (p d) held))

  -- of the disk after some operations
  one_step : (xs : List Step)
      (rest : (k : ℕ) (disks : List Disk) (d : Disk) → p (after_ops d (take k (ops_of xs))) ≡ true
      → list_any p (disks_from disks d xs) ≡ true)
      (k : ℕ) (disks : List Disk) (d : Disk) (act : Act) → p (after_ops d (take k (ops_at act ++ ops_of xs))) ≡ true
      → list_any p (disks_from (with_disk disks d) (disk_after d act) xs) ≡ true
  one_step xs rest zero disks d act holds = old_stay (with_disk disks d) (disk_after d act) xs
      (with_one disks d (or_right (list_any p disks) (p d) holds))
  one_step xs rest (suc k) disks d (Do op) holds = rest k (with_disk disks d) (with_plan d (plan_of d op)) holds
  one_step xs rest (suc k) disks d (Group name) holds = rest (suc k) (with_disk disks d) d holds
  one_step xs rest (suc k) disks d End holds = rest (suc k) (with_disk disks d) d holds
  one_step xs rest (suc k) disks d (Depend later earlier) holds = rest (suc k) (with_disk disks d) d holds
  one_step xs rest (suc k) disks d Sync holds = rest (suc k) (with_disk disks d) d holds
  one_step xs rest (suc k) disks d (Fsync target) holds = rest (suc k) (with_disk disks d) d holds
  one_step xs rest (suc k) disks d (Keep paths) holds = rest (suc k) (with_disk disks d) d holds
  one_step xs rest (suc k) disks d (Hold path) holds = rest (suc k) (with_disk disks d) d holds
  one_step xs rest (suc k) disks d (Spare path other) holds = rest (suc k) (with_disk disks d) d holds

  pub passed_through : (k : ℕ) (disks : List Disk) (d : Disk) (steps : List Step)
      → p (after_ops d (take k (ops_of steps))) ≡ true → list_any p (disks_from disks d steps) ≡ true
  passed_through zero disks d [] holds = with_one disks d (or_right (list_any p disks) (p d) holds)
  passed_through (suc k) disks d [] holds = with_one disks d (or_right (list_any p disks) (p d) holds)
  passed_through k disks d (x ∷ xs) holds =
      one_step xs (λ m es e on. passed_through m es e xs on) k disks d x.act holds

-- an image that shows the disk after some operations shows what is demanded
pub shows_demanded : (atomic : Bool) (image base : Disk) (steps : List Step) (k : ℕ)
    → shows image (after_ops base (take k (ops_of steps))) ≡ true
    → ShowsSome (when atomic (disks_of base steps)) image
shows_demanded false image base steps k shown = tt
shows_demanded true image base steps k shown =
    ap not (passed_through (shows image) k [] base steps shown)
