-- The list of the faults of a set has exactly those that the set has.
use Rattle.std.proofs.Common.{◌≡◌, ℕ, inl, inr, List, [], ◌∷◌, Bool, true, false, Option}
use Rattle.std.proofs.Common.{Some, None, cond, refl, sym, ap, subst, ◌∙◌}
use Rattle.std.specs.Prelude.{filter}
use Rattle.std.specs.List.{Contains}
use Rattle.std.proofs.lemmas.List.Elements.{Contains-append_left, Contains-append_right, Contains-append_cases}
use Rattle.patch_sets.specs.Sets.{has}
use Rattle.patch_sets.proofs.Lists.{front_or_rest, in_front, in_rest, in_none}
use Rattle.crash_model.specs.Disk.{Disk}
use Rattle.crash_model.specs.Lists.{when}
use Rattle.crash_model.specs.Checker.{Demands, promised, all_faults, counted_among, faults_under}
use Rattle.crash_model.specs.FaultKinds.{fault_number}
use Rattle.crash_model.specs.Promises.{Promise, breaks_line}
use Rattle.crash_model.specs.BrokenLines.{broken_lines, lines_end}
use Rattle.crash_model.specs.declared.fault.Fault.{Fault}
use Rattle.crash_model.specs.declared.fault.Fault.TheVariants.{Dangling, Twice, Unwritten, LowLinks, MarkedFree, Wild}
use Rattle.crash_model.specs.declared.fault.Fault.TheVariants.{Lost, NoBlock, HalfDone, BrokenPromise}
use Rattle.fs_check.proofs.BrokenLines.{broken_below}
use Rattle.known_bytes.specs.Texts.{has_fault, HasBytes}
use Rattle.known_bytes.specs.SetFaults.{does_count, is_of_set, set_has_fault}
use Rattle.known_bytes.proofs.ListedFaults.{HasSmallTargets, small_targets, disk_faults, disk_listed, disk_there}
use Rattle.known_bytes.proofs.ListedFaults.{from_some, to_some, when_true, when_value, left_of, right_of, both}

-- ---- a list without those that do not count

module _ {X : Type 0} (test : X → Bool) where
  in_filter : (xs : List X) (x : X) → test x ≡ true → Contains xs x → Contains (filter test xs) x
  in_filter [] x passes is = absurd (in_none x is)
  in_filter (y ∷ ys) x passes is = elim (front_or_rest y ys x is) [
    | inl here ↦ rw (ap test here ∙ passes) (subst (λ (z : X). Contains (z ∷ filter test ys) x) (sym here)
        (in_front x (filter test ys)))
    | inr there ↦ kept (test y) (in_filter ys x passes there)
  ]
    where
      kept : (b : Bool) → Contains (filter test ys) x → Contains (cond b (y ∷ filter test ys) (filter test ys)) x
      kept true h = in_rest y (filter test ys) x h
      kept false h = h

  from_filter : (xs : List X) (x : X) → Contains (filter test xs) x → (test x ≡ true) × Contains xs x
  from_filter [] x is = absurd (in_none x is)
  from_filter (y ∷ ys) x is = by (test y) refl (from_filter ys x) is
    where
      further : (test x ≡ true) × Contains ys x → (test x ≡ true) × Contains (y ∷ ys) x
      further there = (there.0, in_rest y ys x there.1)

      by : (b : Bool) → test y ≡ b → (Contains (filter test ys) x → (test x ≡ true) × Contains ys x)
          → Contains (cond b (y ∷ filter test ys) (filter test ys)) x → (test x ≡ true) × Contains (y ∷ ys) x
      by true passes rest h = elim (front_or_rest y (filter test ys) x h) [
        | inl here ↦ (ap test (sym here) ∙ passes, subst (Contains (y ∷ ys)) here (in_front y ys))
        | inr there ↦ further (rest there)
      ]
      by false fails rest h = further (rest h)

module _ (f : Fault) (found : List Fault) where
  pub in_counted : (counted : Option ℕ) → does_count counted f ≡ true → Contains found f
      → Contains (counted_among counted found) f
  in_counted None counts is = is
  in_counted (Some counted) counts is = in_filter (λ g. has counted (fault_number g)) found f counts is

  pub from_counted : (counted : Option ℕ) → Contains (counted_among counted found) f
      → (does_count counted f ≡ true) × Contains found f
  from_counted None is = (refl, is)
  from_counted (Some counted) is = from_filter (λ g. has counted (fault_number g)) found f is

-- ---- broken promises

module _ (promises : List Promise) (set : ℕ) (d : Disk) where
  in_broken : (line : ℕ) → breaks_line promises set d line ≡ true
      → Contains (broken_lines promises set d) (BrokenPromise line)
  unfolding broken_lines
  in_broken line is = to_some (lines_end promises) line
      (λ line. when (breaks_line promises set d line) (BrokenPromise line)) (BrokenPromise line)
      (broken_below set d promises line is) (rw is refl)

  -- nothing else is listed behind the faults of the disk
  pub record IsBroken (f : Fault) : Type 0 where
    pub line : ℕ
    pub same : BrokenPromise line ≡ f
    pub breaks : breaks_line promises set d line ≡ true

  pub from_broken : (f : Fault) → Contains (broken_lines promises set d) f → IsBroken f
  unfolding broken_lines
  from_broken f is =
      let it = from_some (lines_end promises) (λ line. when (breaks_line promises set d line) (BrokenPromise line)) f
      is in
      record {
        line = it.0;
        same = when_value (breaks_line promises set d it.0) (BrokenPromise it.0) f it.2;
        breaks = when_true (breaks_line promises set d it.0) (BrokenPromise it.0) f it.2;
      }

-- ---- all

module _ (demands : Demands) (set : ℕ) (d : Disk) where
  broken : List Fault
  broken = broken_lines (promised demands.promises) set d

  listed : (f : Fault) → is_of_set demands set d f ≡ true → Contains (all_faults demands set d) f
  unfolding broken broken_lines
  listed (BrokenPromise line) h = Contains-append_right (disk_faults demands d) broken (BrokenPromise line)
      (in_broken (promised demands.promises) set d line h)
  listed (Dangling dir k inode) h = Contains-append_left (disk_faults demands d) broken _ (disk_listed demands d _ h)
  listed (Twice block) h = Contains-append_left (disk_faults demands d) broken _ (disk_listed demands d _ h)
  listed (Unwritten inode slot block) h =
      Contains-append_left (disk_faults demands d) broken _ (disk_listed demands d _ h)
  listed (LowLinks inode entries links) h = Contains-append_left (disk_faults demands d) broken _
      (disk_listed demands d _ h)
  listed (MarkedFree inode slot block) h =
      Contains-append_left (disk_faults demands d) broken _ (disk_listed demands d _ h)
  listed (Wild inode slot block) h = Contains-append_left (disk_faults demands d) broken _ (disk_listed demands d _ h)
  listed (Lost inode) h = Contains-append_left (disk_faults demands d) broken _ (disk_listed demands d _ h)
  listed (NoBlock inode) h = Contains-append_left (disk_faults demands d) broken _ (disk_listed demands d _ h)
  listed HalfDone h = Contains-append_left (disk_faults demands d) broken _ (disk_listed demands d _ h)

  -- a fault of the disk is one of the set
  of_disk : (f : Fault) → has_fault demands d f ≡ true → is_of_set demands set d f ≡ true
  of_disk (BrokenPromise line) h = absurd (cc)
  of_disk (Dangling dir k inode) h = h
  of_disk (Twice block) h = h
  of_disk (Unwritten inode slot block) h = h
  of_disk (LowLinks inode entries links) h = h
  of_disk (MarkedFree inode slot block) h = h
  of_disk (Wild inode slot block) h = h
  of_disk (Lost inode) h = h
  of_disk (NoBlock inode) h = h
  of_disk HalfDone h = h

  there : (f : Fault) → HasSmallTargets d → Contains (all_faults demands set d) f → is_of_set demands set d f ≡ true
  unfolding broken broken_lines
  there f targets h = elim (Contains-append_cases (disk_faults demands d) broken f h) [
    | inl disk ↦ of_disk f (disk_there demands d f targets disk)
    | inr promise ↦
        let it = from_broken (promised demands.promises) set d f promise in
        subst (λ (g : Fault). is_of_set demands set d g ≡ true) it.same it.breaks
  ]

  pub all_listed : (f : Fault) → set_has_fault demands set d f ≡ true → Contains (faults_under demands set d) f
  all_listed f h = in_counted f (all_faults demands set d) demands.counted
      (left_of (does_count demands.counted f) _ h) (listed f (right_of (does_count demands.counted f) _ h))

  pub all_there_of : (f : Fault) → HasSmallTargets d → Contains (faults_under demands set d) f
      → set_has_fault demands set d f ≡ true
  all_there_of f targets h =
      let parts = from_counted f (all_faults demands set d) demands.counted h in
      both (does_count demands.counted f) _ parts.0 (there f targets parts.1)

  pub all_there : (f : Fault) → HasBytes d → Contains (faults_under demands set d) f
      → set_has_fault demands set d f ≡ true
  all_there f bytes h = all_there_of f (small_targets d bytes) h
