-- The entries listed and counted so far.
use Rattle.std.proofs.Common.{◌≡◌, ℕ, ◌+◌, ◌*◌, ◌<◌, ◌≤◌, inl, inr, List, length, Bool, true, not, ◌^◌}
use Rattle.std.proofs.Common.{arith, refl, sym, ap, subst, ◌∙◌}
use Rattle.std.specs.Prelude.{◌==◌, slice_index, replicate}
use Rattle.std.specs.List.{Contains}
use Rattle.std.proofs.lemmas.Bool.{cases_eq}
use Rattle.std.proofs.lemmas.List.{get_or-replicate}
use Rattle.patch_sets.proofs.Ids.{eq_from_true}
use Rattle.crash_model.specs.Disk.{Disk}
use Rattle.crash_model.specs.Layout.{counts, entry_of, target_of, is_live, is_entry}
use Rattle.crash_model.specs.Lists.{when, some_below, each_below}
use Rattle.crash_model.specs.Faults.{leads_to, entries_to}
use Rattle.crash_model.specs.Patches.{image_of}
use Rattle.crash_model.specs.Replay.{image_after_replay}
use Rattle.crash_model.specs.declared.fault.Fault.{Fault}
use Rattle.crash_model.specs.declared.fault.Fault.TheVariants.{Dangling}
use Rattle.known_bytes.specs.Counts.{entry_at, entries_in}
use Rattle.known_bytes.specs.Family.{Family, InEach, HasValue}
use Rattle.known_bytes.proofs.Counted.{count_none, count_one, count_same, rows_none, rows_more, all_entries}
use Rattle.fault_deciding.specs.Listed.{InEachReplayed, IsWithin, HasDangling, CountsOne, AreCounted, AreAtMost}
use Rattle.fault_deciding.specs.Listed.{AreMost}
use Rattle.fault_deciding.proofs.Pushed.{dangling_more, then_within}
use Rattle.fault_deciding.proofs.Tests.{true_or_false, left_of, right_of, next_of, value_small}

-- ---- one entry

module _ (faults : List Fault) (low high dir k : ℕ) (d : Disk) (fits : high < 2 ^ 128)
    (values : counts d dir ≡ true → HasValue low high (entry_of d dir k)) where
  -- an entry that counts has one of the values, and is its inode's number + 1
  pub entry_here : is_entry d dir k ≡ true → HasValue low high (target_of d dir k + 1)
  entry_here is = subst (λ (e : ℕ). HasValue low high e)
      (next_of (entry_of d dir k) (right_of (counts d dir) (not (entry_of d dir k == 0)) is))
      (values (left_of (counts d dir) (not (entry_of d dir k == 0)) is))

  pub dangling_here : ((inode : ℕ) → inode < 255 → HasValue low high (inode + 1)
      → Contains faults (Dangling dir k inode))
      → HasDangling faults dir k d
  dangling_here listed is =
      let here = entry_here (left_of (is_entry d dir k) (not (is_live d (target_of d dir k))) is) in
      let small : target_of d dir k + 1 < 256 = value_small low high (target_of d dir k + 1) fits here in
      let less : target_of d dir k < 255 = omega arith in
      (less, listed (target_of d dir k) less here)

  pub counted_here : (old before after : List ℕ) (inode : ℕ)
      → slice_index old inode + entries_in k d inode dir ≤ slice_index before inode
      → CountsOne low high inode (slice_index before inode) (slice_index after inode)
      → slice_index old inode + entries_in (k + 1) d inode dir ≤ slice_index after inode
  counted_here old before after inode was one = elim (true_or_false (leads_to d dir k inode)) [
    | inl leads ↦
        let same : target_of d dir k ≡ inode = eq_from_true (target_of d dir k) inode
        (right_of (is_entry d dir k) (target_of d dir k == inode) leads) in
        let here : HasValue low high (inode + 1) = subst (λ (n : ℕ). HasValue low high (n + 1)) same
        (entry_here (left_of (is_entry d dir k) (target_of d dir k == inode) leads)) in
        let more : slice_index before inode < slice_index after inode = one.named here in
        let count : entries_in (k + 1) d inode dir ≡ entries_in k d inode dir + 1 =
        count_one k (entries_in k d inode dir) (entry_at d inode dir) (dir, k)
        (ap (λ (b : Bool). when b (dir, k)) leads) refl in
        omega arith
    | inr other ↦
        let least : slice_index before inode ≤ slice_index after inode = one.least in
        let count : entries_in (k + 1) d inode dir ≡ entries_in k d inode dir =
        count_same k (entries_in k d inode dir) (entry_at d inode dir)
        (ap (λ (b : Bool). when b (dir, k)) other) refl in
        omega arith
  ]

-- ---- the entries of a directory

pub record IsDirectory (f : Family) (dir n : ℕ) (old new : List Fault) (before after : List ℕ) : Type 0 where
  pub kept : IsWithin old new
  pub dangling : InEachReplayed f (λ d. (k : ℕ) → k < n → HasDangling new dir k d)
  pub counted : InEachReplayed f (AreCounted n dir before after)
  pub few : AreAtMost (10 * dir + n) after

pub directory_start : (f : Family) (dir : ℕ) (old : List Fault) (most : List ℕ) → AreAtMost (10 * dir) most
    → IsDirectory f dir 0 old old most most
directory_start f dir old most few = record {
  kept = λ fault h. h;
  dangling = λ set m k less. absurd (omega arith);
  counted = λ set m inode less. omega (
    arith,
    count_none (entry_at (image_after_replay (image_of f.base f.patches set)) inode dir),
  );
  few = λ inode less. omega (arith, few inode less);
}

pub directory_next : (f : Family) (dir n low high : ℕ) (old new more : List Fault) (before after next : List ℕ)
    → high < 2 ^ 128
    → InEach f (λ d. counts (image_after_replay d) dir ≡ true
    → HasValue low high (entry_of (image_after_replay d) dir n))
    → IsWithin new more
    → ((inode : ℕ) → inode < 255 → HasValue low high (inode + 1) → Contains more (Dangling dir n inode))
    → ((inode : ℕ) → inode < 16 → CountsOne low high inode (slice_index after inode) (slice_index next inode))
    → IsDirectory f dir n old new before after → IsDirectory f dir (n + 1) old more before next
directory_next f dir n low high old new more before after next fits values kept listed one was = record {
  kept = then_within old new more kept was.kept;
  dangling = λ set m k less.
      let d : Disk = image_after_replay (image_of f.base f.patches set) in
      elim (cases_eq k n) [
        | inl same ↦ subst (λ (j : ℕ). HasDangling more dir j d) (sym same)
            (dangling_here more low high dir n d fits (values set m) listed)
        | inr other ↦ dangling_more new more kept dir k d (was.dangling set m k (omega arith))
      ];
  counted = λ set m inode less.
      let d : Disk = image_after_replay (image_of f.base f.patches set) in
      counted_here more low high dir n d fits (values set m) before after next inode (was.counted set m inode less)
      (one inode less);
  few = λ inode less. omega (arith, (one inode less).most, was.few inode less);
}

-- ---- the entries of all directories

abbrev pub entries_before : ℕ → ℕ → Disk → ℕ
entries_before n inode d = length (each_below n (λ dir. some_below 10 (entry_at d inode dir)))

pub record AreEntries (f : Family) (n : ℕ) (old new : List Fault) (most : List ℕ) : Type 0 where
  pub kept : IsWithin old new
  pub dangling : InEachReplayed f (λ d. (dir k : ℕ) → dir < n → k < 10 → HasDangling new dir k d)
  pub counted : InEachReplayed f (λ d. (inode : ℕ) → inode < 16 → entries_before n inode d ≤ slice_index most inode)
  pub few : AreAtMost (10 * n) most

pub entries_start : (f : Family) (old : List Fault) (most : List ℕ) → AreAtMost 0 most → AreEntries f 0 old old most
entries_start f old most few = record {
  kept = λ fault h. h;
  dangling = λ set m dir k less. absurd (omega arith);
  counted = λ set m inode less. omega (
    arith,
    rows_none (λ dir. some_below 10 (entry_at (image_after_replay (image_of f.base f.patches set)) inode dir)),
  );
  few = λ inode less. omega (arith, few inode less);
}

-- 16 zeros
pub none_yet : AreAtMost 0 (replicate 16 0)
none_yet inode less = omega (arith, get_or-replicate {A = ℕ} 16 inode 0 0 less)

pub entries_next : (f : Family) (n : ℕ) (old new more : List Fault) (most next : List ℕ) → IsWithin new more
    → InEachReplayed f (λ d. (k : ℕ) → k < 10 → HasDangling more n k d)
    → InEachReplayed f (AreCounted 10 n most next) → AreAtMost (10 * n + 10) next → AreEntries f n old new most
    → AreEntries f (n + 1) old more next
entries_next f n old new more most next kept listed counted few was = record {
  kept = then_within old new more kept was.kept;
  dangling = λ set m dir k less column.
      let d : Disk = image_after_replay (image_of f.base f.patches set) in
      elim (cases_eq dir n) [
        | inl same ↦ subst (λ (j : ℕ). HasDangling more j k d) (sym same) (listed set m k column)
        | inr other ↦ dangling_more new more kept dir k d (was.dangling set m dir k (omega arith) column)
      ];
  counted = λ set m inode less.
      let d : Disk = image_after_replay (image_of f.base f.patches set) in
      omega (
        arith,
        was.counted set m inode less,
        counted set m inode less,
        rows_more n (entries_before n inode d) (entries_in 10 d inode n)
            (λ dir. some_below 10 (entry_at d inode dir)) refl refl,
      );
  few = λ inode less. omega (arith, few inode less);
}

pub entries_all : (f : Family) (n : ℕ) (most : List ℕ) → n ≡ 16
    → InEachReplayed f (λ d. (inode : ℕ) → inode < 16 → entries_before n inode d ≤ slice_index most inode)
    → InEachReplayed f (AreMost most)
entries_all f n most end counted set m inode less =
    let d : Disk = image_after_replay (image_of f.base f.patches set) in
    let all : entries_before n inode d ≡ length (entries_to d inode) =
    ap (λ (k : ℕ). entries_before k inode d) end ∙ all_entries d inode in
    omega (arith, counted set m inode less, all)
