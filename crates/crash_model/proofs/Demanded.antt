-- A set is clean under demands where its image is clean for the inodes that are kept, and shows one of the disks, and
-- the set breaks no promise; if all faults count, only there.
use Rattle.std.proofs.Common.{◌≡◌, ℕ, List, [], ◌∷◌, ◌++◌, Bool, true, false, Option, Some, None, refl, sym, ap, ◌∙◌}
use Rattle.std.specs.Prelude.{if◌then◌else◌, filter}
use Rattle.patch_sets.specs.Sets.{has}
use Rattle.crash_model.specs.Disk.{Disk}
use Rattle.crash_model.specs.Atomic.{is_half_done, atomic_faults, ShowsSome}
use Rattle.crash_model.specs.Checker.{Demands, faults_keeping, faults_showing, promised, counted_among}
use Rattle.crash_model.specs.Checker.{IsCleanKeeping, IsCleanUnder}
use Rattle.crash_model.specs.FaultKinds.{fault_number}
use Rattle.crash_model.specs.BrokenLines.{broken_lines}
use Rattle.crash_model.specs.declared.fault.Fault.{Fault}
use Rattle.crash_model.specs.declared.fault.Fault.TheVariants.{HalfDone}
use Rattle.crash_model.proofs.Clean.{nil_left, nil_right, nil_both}

listed_none : (test : Bool) → (if test then HalfDone ∷ [] else []) ≡ [] → test ≡ false
listed_none true e = cc
listed_none false e = refl

none_listed : (test : Bool) → test ≡ false → (if test then HalfDone ∷ [] else []) ≡ []
none_listed test is = rw is refl

pub atomic_none : (disks : List Disk) (d : Disk) → atomic_faults disks d ≡ [] → is_half_done disks d ≡ false
unfolding atomic_faults
atomic_none disks d = listed_none (is_half_done disks d)

pub none_atomic : (disks : List Disk) (d : Disk) → is_half_done disks d ≡ false → atomic_faults disks d ≡ []
unfolding atomic_faults
none_atomic disks d = none_listed (is_half_done disks d)

showing_parts : (disks : Option (List Disk)) (d : Disk) (found : List Fault) → faults_showing disks d found ≡ []
    → (found ≡ []) × ShowsSome disks d
showing_parts None d found none = (none, tt)
showing_parts (Some disks) d found none =
    (nil_left found (atomic_faults disks d) none, atomic_none disks d (nil_right found (atomic_faults disks d) none))

showing_none : (disks : Option (List Disk)) (d : Disk) (found : List Fault) → found ≡ [] → ShowsSome disks d
    → faults_showing disks d found ≡ []
showing_none None d found none shows = none
showing_none (Some disks) d found none shows = nil_both found (atomic_faults disks d) none (none_atomic disks d shows)

-- where nothing is found, nothing counts
counted_none : (counted : Option ℕ) (found : List Fault) → found ≡ [] → counted_among counted found ≡ []
counted_none None found none = none
counted_none (Some counted) found none =
    ap (λ (fs : List Fault). filter (λ f. has counted (fault_number f)) fs) none

module _ (demands : Demands) (set : ℕ) (d : Disk) where
  broken : List Fault
  broken = broken_lines (promised demands.promises) set d

  image : List Fault
  image = faults_showing demands.disks d (faults_keeping demands.kept d)

  pub clean_parts : demands.counted ≡ None → IsCleanUnder demands set d
      → IsCleanKeeping demands.kept d × ShowsSome demands.disks d
      × (broken_lines (promised demands.promises) set d ≡ [])
  unfolding image broken broken_lines
  clean_parts all under =
      let none : image ++ broken ≡ [] =
      ap (λ (c : Option ℕ). counted_among c (image ++ broken)) (sym all) ∙ under.faultless in
      let parts = showing_parts demands.disks d (faults_keeping demands.kept d) (nil_left image broken none) in
      (record { faultless = parts.0 }, parts.1, nil_right image broken none)

  pub clean_from_parts : IsCleanKeeping demands.kept d → ShowsSome demands.disks d
      → broken_lines (promised demands.promises) set d ≡ [] → IsCleanUnder demands set d
  unfolding image broken broken_lines
  clean_from_parts keeping shows none = record {
    faultless = counted_none demands.counted (image ++ broken) (nil_both image broken
        (showing_none demands.disks d (faults_keeping demands.kept d) keeping.faultless shows) none);
  }
