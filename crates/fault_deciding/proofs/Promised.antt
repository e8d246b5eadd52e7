-- What is known of the faults of all sets of a family, with broken promises.
use Rattle.std.proofs.Common.{◌≡◌, ℕ, ◌+◌, ◌<◌, List, length, take, get_or, Bool, true, false}
use Rattle.std.proofs.Common.{◌&&◌, ◌||◌, not, arith, refl, sym, ap, subst, ◌∙◌}
use Rattle.std.specs.Prelude.{nat_le, Result, Ok, Err}
use Rattle.std.proofs.lemmas.Bool.{false≢true}
use Rattle.std.proofs.lemmas.List.{length-map}
use Rattle.patch_sets.specs.Closed.{IsClosed}
use Rattle.patch_sets.proofs.Ids.{true_from_eq, false_from_ne}
use Rattle.crash_model.specs.Disk.{Disk}
use Rattle.crash_model.specs.Patches.{deps_of, image_of}
use Rattle.crash_model.specs.Replay.{image_after_replay}
use Rattle.crash_model.specs.Checker.{Demands}
use Rattle.crash_model.specs.Promises.{Promise, is_broken, breaks_line, has_all, has_none, is_allowed, is_spared}
use Rattle.crash_model.specs.Promises.{paths_show}
use Rattle.crash_model.specs.declared.names.Path.{Path}
use Rattle.crash_model.specs.declared.promises.Allowance.{Allowance}
use Rattle.crash_model.specs.declared.showing.Shown.{Shown}
use Rattle.crash_model.specs.declared.fault.Fault.{Fault}
use Rattle.crash_model.specs.declared.fault.Fault.TheVariants.{Dangling, Twice, Unwritten, LowLinks, MarkedFree, Wild}
use Rattle.crash_model.specs.declared.fault.Fault.TheVariants.{Lost, NoBlock, HalfDone, BrokenPromise}
use Rattle.fs_check.proofs.BrokenLines.{more}
use Rattle.known_bytes.specs.Chains.{Change}
use Rattle.known_bytes.specs.Family.{IsMember, IsUndecided}
use Rattle.known_bytes.specs.Family.{Family}
use Rattle.known_bytes.specs.Reading.{Reading, InEachDisk, IsKnown}
use Rattle.known_bytes.specs.SetFaults.{does_count, is_of_set}
use Rattle.known_bytes.specs.Texts.{has_fault}
use Rattle.known_bytes.proofs.ListedFaults.{left_of, right_of, both}
use Rattle.set_families.specs.Families.{IsFamily, IsMember as IsClosedMember}
use Rattle.set_families.specs.Properties.{IsAnswer}
use Rattle.set_families.specs.declared.family.Family.{Family as Held}
use Rattle.fault_deciding.specs.Asked.{LeavesFault, family_of}
use Rattle.fault_deciding.specs.OfSets.{InEachRead, IsKnownOfSets, IsKnownRead, is_excused}

-- ---- from what is known of a family to an answer

module _ (c : Change) (family : Held) (deps : List ℕ) (about : deps ≡ deps_of c.patches) (is : IsFamily deps family)
    (demands : Demands) (fault : Fault) where
  member_held : IsMember (family_of c family) family.held
  member_held = record {
    closed = subst (λ (ds : List ℕ). IsClosed ds family.held) about is.closed;
    held = λ id has. has;
    barred = λ id barred has. is.disjoint id has barred;
  }

  member_to : (set : ℕ) → IsClosedMember deps family set → IsMember (family_of c family) set
  member_to set m = record {
    closed = subst (λ (ds : List ℕ). IsClosed ds set) about m.closed;
    held = m.has_held;
    barred = m.lacks_barred;
  }

  pub answered : (answer : Result Bool ℕ) → does_count demands.counted fault ≡ true
      → IsKnownOfSets (family_of c family) (λ set d. is_of_set demands set d fault) answer
      → IsAnswer (LeavesFault demands c fault) deps family answer
  answered (Ok true) counts known = both (does_count demands.counted fault) _ counts (known family.held member_held)
  answered (Ok false) counts known = λ set m leaves. false≢true (sym (known set (member_to set m))
      ∙ right_of (does_count demands.counted fault) _ leaves)
  answered (Err id) counts known = record {
    known = let same : length deps ≡ length c.patches = ap length about ∙ length-map c.patches (λ p. p.deps) in
        omega (arith, known.known, same);
    not_held = known.not_held;
    not_barred = known.not_barred;
  }

  pub not_counted : does_count demands.counted fault ≡ false
      → IsAnswer (LeavesFault demands c fault) deps family (Ok false)
  not_counted never = λ set m leaves. false≢true (sym never ∙ left_of (does_count demands.counted fault) _ leaves)

-- ---- the same tests

pub known_as : {X : Type 0} (f : Family) (P Q : ℕ → Disk → X) (answer : Result X ℕ)
    → ((set : ℕ) (d : Disk) → P set d ≡ Q set d) → IsKnownOfSets f P answer → IsKnownOfSets f Q answer
known_as f P Q (Ok value) same known = λ set m. sym (same set _) ∙ known set m
known_as f P Q (Err id) same known = known

-- a fault that is no broken promise is one of the disk
pub of_disk : (demands : Demands) (set : ℕ) (d : Disk) (fault : Fault) → ((line : ℕ) → fault ≡ BrokenPromise line → ⊥)
    → has_fault demands d fault ≡ is_of_set demands set d fault
of_disk demands set d (BrokenPromise line) other = absurd (other line refl)
of_disk demands set d (Dangling dir k inode) other = refl
of_disk demands set d (Twice block) other = refl
of_disk demands set d (Unwritten inode slot block) other = refl
of_disk demands set d (LowLinks inode entries links) other = refl
of_disk demands set d (MarkedFree inode slot block) other = refl
of_disk demands set d (Wild inode slot block) other = refl
of_disk demands set d (Lost inode) other = refl
of_disk demands set d (NoBlock inode) other = refl
of_disk demands set d HalfDone other = refl

-- ---- the promises of a line

module _ (promises : List Promise) (line i : ℕ) (p : Promise) (below : i < length promises)
    (is : p ≡ get_or promises i p) (set : ℕ) (d : Disk) where
  pub line_more : p.line ≡ line → (breaks_line (take i promises) set d line || is_broken p set d)
      ≡ breaks_line (take (i + 1) promises) set d line
  line_more same = sym (more set d promises i p below is line
      ∙ rw (true_from_eq p.line line same) refl)

  pub line_same : (p.line ≡ line → ⊥) → breaks_line (take i promises) set d line
      ≡ breaks_line (take (i + 1) promises) set d line
  line_same other = sym (more set d promises i p below is line
      ∙ rw (false_from_ne p.line line other) (or_false (breaks_line (take i promises) set d line)))
    where
      or_false : (b : Bool) → (b || false) ≡ b
      or_false true = refl
      or_false false = refl

-- ---- one promise

-- a set with the ids of a promise breaks it where nothing excuses it
pub broken_is : (promise : Promise) (set : ℕ) (d : Disk)
    → ((has_all set promise.after && has_none set promise.ends) && not (is_excused promise set d))
    ≡ is_broken promise set d
unfolding is_broken
broken_is promise set d = by (has_all set promise.after && has_none set promise.ends)
    (is_allowed promise.allowed set (paths_show d promise.paths)) (is_spared promise.spares d)
  where
    by : (a b e : Bool) → (a && not (b || e)) ≡ ((a && not b) && not e)
    by true true e = refl
    by true false e = refl
    by false b e = refl

module _ (f : Family) (promise : Promise) where
  pub broken_after : (answer : Result Bool ℕ)
      → IsKnownOfSets f (λ set d. has_all set promise.after && has_none set promise.ends) (Ok true)
      → IsKnownOfSets f (λ set d. not (is_excused promise set d)) answer → IsKnownOfSets f (is_broken promise) answer
  broken_after (Ok value) has excused = λ set m.
      let d = image_after_replay (image_of f.base f.patches set) in
      sym (broken_is promise set d)
      ∙ (ap (λ (b : Bool). b && not (is_excused promise set d)) (has set m) ∙ excused set m)
  broken_after (Err id) has excused = excused

  pub not_broken : IsKnownOfSets f (λ set d. has_all set promise.after && has_none set promise.ends) (Ok false)
      → IsKnownOfSets f (is_broken promise) (Ok false)
  not_broken lacks = λ set m.
      let d = image_after_replay (image_of f.base f.patches set) in
      sym (broken_is promise set d) ∙ ap (λ (b : Bool). b && not (is_excused promise set d)) (lacks set m)

-- ---- what is known of the disks after replay is known of the sets

pub of_replayed : {X : Type 0} (f : Family) (r : Reading) (P : ℕ → Disk → X) (answer : Result X ℕ)
    → r ≡ record { family = f; replayed = true } → IsKnownRead r P answer → IsKnownOfSets f P answer
of_replayed f r P (Ok value) same known =
    subst (λ (s : Reading). InEachRead s (λ set d. P set d ≡ value)) same known
of_replayed f r P (Err id) same known = subst (λ (s : Reading). IsUndecided s.family id) same known

-- what is known of disks alone
pub read_of_disks : {X : Type 0} (r : Reading) (P : Disk → X) (answer : Result X ℕ)
    → IsKnown r P answer → IsKnownRead r (λ set d. P d) answer
read_of_disks r P (Ok value) known = known
read_of_disks r P (Err id) known = known

-- what is allowed, from what is shown and which sets may show it
module _ (r : Reading) (allowed : List Allowance) (paths : List Path) (shows : List Shown)
    (shown : InEachDisk r (λ d. paths_show d paths ≡ shows)) where
  pub none_allowed : ((set : ℕ) → is_allowed allowed set shows ≡ false)
      → IsKnownRead r (λ set d. is_allowed allowed set (paths_show d paths)) (Ok false)
  none_allowed none = λ set m. ap (is_allowed allowed set) (shown set m) ∙ none set

  pub allowed_from : (least : ℕ) → ((set : ℕ) → is_allowed allowed set shows ≡ nat_le least set)
      → (answer : Result Bool ℕ) → IsKnownOfSets r.family (λ set d. nat_le least set) answer
      → IsKnownRead r (λ set d. is_allowed allowed set (paths_show d paths)) answer
  allowed_from least is (Ok value) known = λ set m. ap (is_allowed allowed set) (shown set m) ∙ (is set ∙ known set m)
  allowed_from least is (Err id) known = known
