-- Under the full journal a set fails only where it breaks a promise.
use Rattle.std.proofs.Common.{◌≡◌, ℕ, zero, suc, ◌+◌, ◌<◌, inl, inr, List, [], ◌++◌, Bool, true, false, get_or}
use Rattle.std.proofs.Common.{refl, sym, ◌∙◌, ap, subst}
use Rattle.std.specs.Prelude.{Option, Some, None, filter, option_to_list}
use Rattle.std.proofs.lemmas.List.Elements.{filter-append}
use Rattle.patch_sets.specs.Sets.{has}
use Rattle.crash_model.specs.Disk.{Disk, IsDisk}
use Rattle.crash_model.specs.Lists.{when, some_below}
use Rattle.crash_model.specs.Sound.{HasZeroJournal}
use Rattle.crash_model.specs.Patches.{image_of}
use Rattle.crash_model.specs.Replay.{image_after_replay}
use Rattle.crash_model.specs.Checker.{Demands, Asked, AreDemands, IsCleanKeeping, IsFailingUnder, faults_keeping}
use Rattle.crash_model.specs.Checker.{faults_showing, all_faults, counted_among, promised, IsKeptIfStrict}
use Rattle.crash_model.specs.Atomic.{ShowsSome}
use Rattle.crash_model.specs.FaultKinds.{fault_number}
use Rattle.crash_model.specs.Promises.{Promise, breaks_line}
use Rattle.crash_model.specs.BrokenLines.{lines_end, broken_lines}
use Rattle.crash_model.specs.Tracing.{Tracing}
use Rattle.crash_model.specs.declared.fault.Fault.{Fault}
use Rattle.crash_model.specs.declared.fault.Fault.TheVariants.{BrokenPromise}
use Rattle.crash_model.specs.declared.patches.Patch.{Patch}
use Rattle.crash_model.specs.declared.steps.Step.{Step}
use Rattle.inode_fs.specs.Inside.{HasSameJournal}
use Rattle.journal_replay.proofs.Blocks.{block-at}
use Rattle.crash_model.proofs.Clean.{nil_left}
use Rattle.crash_model.proofs.Demanded.{clean_from_parts}
use Rattle.full_journal_laws.specs.Full.{commits_from, IsRecovered, IsFullSafe, CountsNoPromise}
use Rattle.full_journal_laws.proofs.Showing.{shows_demanded}
use Rattle.full_journal_laws.proofs.Kept.{strictly_clean}

-- ---- broken promises that do not count

no_promise : (set : ℕ) (d : Disk) → broken_lines [] set d ≡ []
unfolding broken_lines some_below
no_promise set d = refl

module _ (counted : ℕ) (without : has counted 10 ≡ false) where
  one_uncounted : (test : Bool) (line : ℕ)
      → filter (λ f. has counted (fault_number f)) (option_to_list (when test (BrokenPromise line))) ≡ []
  one_uncounted true line = rw without refl
  one_uncounted false line = refl

  lines_uncounted : (test : ℕ → Bool) (n : ℕ)
      → filter (λ f. has counted (fault_number f)) (some_below n (λ line. when (test line) (BrokenPromise line))) ≡ []
  unfolding some_below
  lines_uncounted test zero = refl
  lines_uncounted test (suc n) =
      filter-append (λ f. has counted (fault_number f)) (some_below n (λ line. when (test line) (BrokenPromise line)))
      (option_to_list (when (test n) (BrokenPromise n)))
      ∙ rw (lines_uncounted test n, one_uncounted (test n) n) refl

  broken_uncounted : (promises : List Promise) (set : ℕ) (d : Disk)
      → counted_among (Some counted) (broken_lines promises set d) ≡ []
  unfolding broken_lines
  broken_uncounted promises set d = lines_uncounted (breaks_line promises set d) (lines_end promises)

none_counts : (demands : Demands) (set : ℕ) (d : Disk) → CountsNoPromise demands
    → counted_among demands.counted (broken_lines (promised demands.promises) set d) ≡ []
none_counts demands set d (inl none) =
    ap (λ (promises : List Promise). counted_among demands.counted (broken_lines promises set d)) none
    ∙ (ap (counted_among demands.counted) (no_promise set d) ∙ nothing demands.counted)
  where
    nothing : (counted : Option ℕ) → counted_among counted [] ≡ []
    nothing None = refl
    nothing (Some counted) = refl
none_counts demands set d (inr (counted, is, without)) =
    ap (λ (c : Option ℕ). counted_among c (broken_lines (promised demands.promises) set d)) is
    ∙ broken_uncounted counted without (promised demands.promises) set d

-- ---- what is found

module _ (asked : Asked) (base : Disk) (steps : List Step) (s : Tracing) (patches : List Patch) (set : ℕ)
    (disk : IsDisk base) (recovered : IsRecovered base steps s patches set) where
  left : Disk
  left = image_after_replay (image_of base patches set)

  -- none of the eight faults holds of what replay leaves
  keeps : (kept : Option ℕ) → IsKeptIfStrict asked.strict base steps kept → IsCleanKeeping kept left
  unfolding left
  keeps None demanded = record { faultless = recovered.sound.clean.faultless }
  keeps (Some kept) demanded = strictly_clean base steps s patches set kept disk demanded.1 recovered

  -- nothing but broken promises is found, whatever is demanded
  pub only_broken : (demands : Demands) → AreDemands asked base steps demands
      → all_faults demands set (image_after_replay (image_of base patches set))
      ≡ broken_lines (promised demands.promises) set (image_after_replay (image_of base patches set))
  unfolding left
  only_broken demands are =
      let d : Disk = image_after_replay (image_of base patches set) in
      let image : List Fault = faults_showing demands.disks d (faults_keeping demands.kept d) in
      let alone : Demands =
      record { kept = demands.kept; disks = demands.disks; promises = None; counted = None } in
      let clean = clean_from_parts alone set d (keeps demands.kept are.kept)
      (subst (λ (disks : Option (List Disk)). ShowsSome disks d) (sym are.disks)
      (shows_demanded asked.atomic d base steps (commits_from 0 s.emitted set) recovered.shown)) (no_promise set d) in
      ap (λ (found : List Fault). found ++ broken_lines (promised demands.promises) set d)
      (nil_left image (broken_lines [] set d) clean.faultless)

-- no set fails where no promise counts
pub none_fails : (asked : Asked) (whole : Bool) (demands : Demands) (base : Disk) (steps : List Step)
    (patches : List Patch) → IsDisk base → AreDemands asked base steps demands → CountsNoPromise demands
    → IsFullSafe whole base steps patches → (set : ℕ) → ¬ (IsFailingUnder demands base patches set)
none_fails asked whole demands base steps patches disk are none safe set failing =
    let d : Disk = image_after_replay (image_of base patches set) in
    failing.unclean (record {
      faultless = ap (counted_among demands.counted)
          (only_broken asked base steps safe.0 patches set disk (safe.2 set failing.closed) demands are)
          ∙ none_counts demands set d none;
    })

-- a journal that stays is as zero as it was
pub zero-kept : (old new : Disk) → new.journal ≡ old.journal → HasSameJournal old new → HasZeroJournal old
    → HasZeroJournal new
zero-kept old new size same zeros block low high offset less =
    let high_old : block < 4 + old.journal = subst (λ (m : ℕ). block < 4 + m) size high in
    sym (block-at new block offset less) ∙ ap (λ (xs : List ℕ). get_or xs offset 0) (same block low high_old)
    ∙ block-at old block offset less ∙ zeros block low high_old offset less
