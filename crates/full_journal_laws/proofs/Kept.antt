-- What is kept stays reached under the full journal.
use Rattle.std.proofs.Common.{◌≡◌, ℕ, zero, suc, ◌+◌, ◌*◌, ◌-◌, ◌<◌, ◌≤◌, inl, inr, List, [], ◌∷◌, ◌++◌, take, get_or}
use Rattle.std.proofs.Common.{Bool, true, false, ◌&&◌, ◌==◌, not, nat_lt, arith, refl, sym, ◌∙◌, ap, subst}
use Rattle.std.specs.Prelude.{Some}
use Rattle.std.specs.List.{range_with_len}
use Rattle.std.proofs.lemmas.Bool.{false≢true, cases_Bool, cases_lt, and_parts, and_right, eq-eqb, eqb-true, ltb-true}
use Rattle.std.proofs.lemmas.Bool.{leb-true}
use Rattle.std.proofs.lemmas.List.Folds.{list_any_at}
use Rattle.std.proofs.lemmas.List.FromFn.{length-range_with_len, get_or-range_with_len}
use Rattle.patch_sets.specs.Sets.{has}
use Rattle.crash_model.specs.Disk.{Disk, IsDisk, block_of}
use Rattle.crash_model.specs.Layout.{kind_of, pointer_of, is_live, is_data, is_entry, target_of, counts}
use Rattle.crash_model.specs.Faults.{leads_to}
use Rattle.crash_model.specs.Sound.{IsSound, ReachedIn}
use Rattle.crash_model.specs.Patches.{image_of}
use Rattle.crash_model.specs.Plan.{plan_of}
use Rattle.crash_model.specs.StepDisks.{with_plan, disk_after}
use Rattle.crash_model.specs.Replay.{image_after_replay}
use Rattle.crash_model.specs.Strict.{stays_live, IsKept, has_entry_to, is_reached, LosesNothing}
use Rattle.crash_model.specs.Checker.{IsCleanKeeping}
use Rattle.crash_model.specs.Tracing.{Tracing}
use Rattle.crash_model.specs.declared.patches.Patch.{Patch}
use Rattle.crash_model.specs.declared.steps.Act.{Act}
use Rattle.crash_model.specs.declared.steps.Act.TheVariants.{Do, Group, End, Depend, Sync, Fsync, Keep, Hold, Spare}
use Rattle.crash_model.specs.declared.steps.Step.{Step}
use Rattle.crash_model.proofs.Clean.{clean_no_fault}
use Rattle.crash_model.proofs.Losing.{clean_keeping}
use Rattle.crash_model.proofs.Reached.{reached-root, reached-step, reached-least}
use Rattle.journal_replay.proofs.Blocks.{block-at}
use Rattle.full_journal_laws.specs.Full.{ops_at, ops_of, after_ops, commits_from, IsRecovered}

-- ---- in a sound disk

not_dead : (entry live : Bool) → (entry && not live) ≡ false → entry ≡ true → live ≡ true
not_dead true true e is = refl
not_dead true false e is = absurd (false≢true (sym e))
not_dead false live e is = absurd (false≢true is)

module _ (d : Disk) (sound : IsSound d) where
  -- the entry at a place leads to its target
  named-by : (dir k inode : ℕ) → k < 10 → is_entry d dir k ≡ true → target_of d dir k ≡ inode
      → has_entry_to d dir inode ≡ true
  named-by dir k inode below used is =
      let at : get_or (range_with_len 0 10) k 0 ≡ 0 + k = get_or-range_with_len 0 10 k 0 below in
      let same : get_or (range_with_len 0 10) k 0 ≡ k = omega (arith, at) in
      list_any_at (λ j. leads_to d dir j inode) (range_with_len 0 10) k 0 (omega (arith, length-range_with_len 0 10))
      (subst (λ (j : ℕ). leads_to d dir j inode ≡ true) (sym same)
      (rw (used, eq-eqb (target_of d dir k) inode is) refl))

  -- each inode that its names lead to is reached
  all_reached : (n i : ℕ) → ReachedIn d n i → is_reached d i ≡ true
  all_reached zero i is = subst (λ (j : ℕ). is_reached d j ≡ true) (sym is) (reached-root d sound.root.0.kind_is)
  all_reached (suc n) i (dir, name, has_name, rest) =
      let k : ℕ = has_name.place in
      let clean = clean_no_fault d sound.clean in
      let live : is_live d (target_of d dir k) ≡ true = not_dead (is_entry d dir k) (is_live d (target_of d dir k))
      (clean.no_dangling dir has_name.within.0 k has_name.within.1) has_name.used in
      reached-step d dir i (all_reached n dir rest) (named-by dir k i has_name.within.1 has_name.used has_name.target)
      (subst (λ (j : ℕ). is_live d j ≡ true) has_name.target live)

  live_reached : (i : ℕ) → is_live d i ≡ true → is_reached d i ≡ true
  live_reached i live = let path = sound.reached i live in all_reached path.0 i path.1

  below_of : (i : ℕ) → is_reached d i ≡ true → i < 16
  below_of i is = reached-least d (λ (j : ℕ). j < 16) (λ e. omega arith)
      (λ dir j below names live. ltb-true j 16 (and_parts _ (not (kind_of d j == 0)) live).0) i is

  -- a directory's block is one of the data area, and so not 0
  has_block : (i : ℕ) → i < 16 → kind_of d i ≡ 2 → (pointer_of d i 0 == 0) ≡ false
  has_block i below is =
      let counted : counts d i ≡ true = (sound.directories i below is).0 in
      elim (cases_Bool (pointer_of d i 0 == 0)) [
        | inr apart ↦ apart
        | inl zero_there ↦
            let none : pointer_of d i 0 ≡ 0 = eqb-true (pointer_of d i 0) 0 zero_there in
            absurd (false≢true (sym (none_counts i none) ∙ counted))
      ]
    where
      data_zero : is_data d 0 ≡ false
      data_zero = elim (cases_Bool (is_data d 0)) [
        | inl is ↦ absurd (let low : 4 + d.journal ≤ 0 = leb-true (4 + d.journal) 0
            (and_parts _ (nat_lt 0 d.blocks) is).0 in omega arith)
        | inr apart ↦ apart
      ]

      none_counts : (i : ℕ) → pointer_of d i 0 ≡ 0 → counts d i ≡ false
      none_counts i none = rw (none, data_zero, and_right (kind_of d i == 2) false refl) refl

  bare : (r k p : Bool) → (r ≡ true → k ≡ true → p ≡ false) → ((r && k) && p) ≡ false
  bare true true p well = well refl refl
  bare true false p well = refl
  bare false k p well = refl

  pub sound_loses : (kept : ℕ) → ((i : ℕ) → has kept i ≡ true → is_live d i ≡ true) → LosesNothing kept d
  sound_loses kept lives = record {
    no_lost = λ i below. elim (cases_Bool (has kept i)) [
      | inl is ↦ rw (is, live_reached i (lives i is)) refl
      | inr gone ↦ rw gone refl
    ];
    no_bare = λ i below. bare (is_reached d i) (kind_of d i == 2) (pointer_of d i 0 == 0)
        (λ r k. has_block i (below_of i r) (eqb-true (kind_of d i) 2 k));
  }

-- ---- what stays live

-- the same for a step and those after it
module _ (xs : List Step) (i : ℕ)
    (rest : (k : ℕ) (d : Disk) → stays_live d xs i ≡ true → is_live (after_ops d (take k (ops_of xs))) i ≡ true) where
  stays_one : (k : ℕ) (d : Disk) (act : Act) → is_live d i ≡ true → stays_live (disk_after d act) xs i ≡ true
      → is_live (after_ops d (take k (ops_at act ++ ops_of xs))) i ≡ true
  stays_one zero d act now on = now
  stays_one (suc k) d (Do op) now on = rest k (with_plan d (plan_of d op)) on
  stays_one (suc k) d (Group name) now on = rest (suc k) d on
  stays_one (suc k) d End now on = rest (suc k) d on
  stays_one (suc k) d (Depend later earlier) now on = rest (suc k) d on
  stays_one (suc k) d Sync now on = rest (suc k) d on
  stays_one (suc k) d (Fsync target) now on = rest (suc k) d on
  stays_one (suc k) d (Keep paths) now on = rest (suc k) d on
  stays_one (suc k) d (Hold path) now on = rest (suc k) d on
  stays_one (suc k) d (Spare path other) now on = rest (suc k) d on

-- it is live after the first k operations
pub stays_after : (k : ℕ) (d : Disk) (steps : List Step) (i : ℕ) → stays_live d steps i ≡ true
    → is_live (after_ops d (take k (ops_of steps))) i ≡ true
stays_after zero d [] i is = is
stays_after (suc k) d [] i is = is
stays_after k d (x ∷ xs) i is =
    let parts = and_parts (is_live d i) _ is in
    stays_one xs i (λ m e on. stays_after m e xs i on) k d x.act parts.0 parts.1

-- ---- inodes are outside the journal

kind_in_block : (d : Disk) (i block offset : ℕ) → offset < 128 → 128 * block + offset ≡ 256 + 16 * i
    → kind_of d i ≡ get_or (block_of d block) offset 0
kind_in_block d i block offset less at = ap (λ (m : ℕ). get_or d.bytes m 0) (sym at)
    ∙ sym (block-at d block offset less)

same_kind : (d e : Disk) (i : ℕ) → i < 16 → block_of d 2 ≡ block_of e 2 → block_of d 3 ≡ block_of e 3
    → kind_of d i ≡ kind_of e i
same_kind d e i below two three = elim (cases_lt i 8) [
  | inl low ↦ kind_in_block d i 2 (16 * i) (omega arith) (omega arith)
      ∙ (ap (λ (xs : List ℕ). get_or xs (16 * i) 0) two ∙ sym
      (kind_in_block e i 2 (16 * i) (omega arith) (omega arith)))
  | inr high ↦ kind_in_block d i 3 (16 * i - 128) (omega arith) (omega arith)
      ∙ (ap (λ (xs : List ℕ). get_or xs (16 * i - 128) 0) three
      ∙ sym (kind_in_block e i 3 (16 * i - 128) (omega arith) (omega arith)))
]

same_live : (d e : Disk) (i : ℕ) → block_of d 2 ≡ block_of e 2 → block_of d 3 ≡ block_of e 3 → is_live e i ≡ true
    → is_live d i ≡ true
same_live d e i two three live =
    let below : i < 16 = ltb-true i 16 (and_parts _ (not (kind_of e i == 0)) live).0 in
    rw (same_kind d e i below two three) live

-- ---- the whole

pub strictly_clean : (base : Disk) (steps : List Step) (s : Tracing) (patches : List Patch) (set kept : ℕ) → IsDisk base
    → IsKept base steps kept
    → IsRecovered base steps s patches set → IsCleanKeeping (Some kept) (image_after_replay (image_of base patches set))
strictly_clean base steps s patches set kept disk keeps recovered =
    let d : Disk = image_after_replay (image_of base patches set) in
    let k : ℕ = commits_from 0 s.emitted set in
    let left : Disk = after_ops base (take k (ops_of steps)) in
    let two : block_of d 2 ≡ block_of left 2 = recovered.same 2 (omega (arith, disk.least)) (inl (omega arith)) in
    let three : block_of d 3 ≡ block_of left 3 = recovered.same 3 (omega (arith, disk.least)) (inl (omega arith)) in
    clean_keeping kept d recovered.sound.clean (sound_loses d recovered.sound kept
    (λ i is. same_live d left i two three (stays_after k base steps i (sym (keeps i) ∙ is))))
