-- The fault of whole operations behind the others.
use Rattle.std.proofs.Common.{◌≡◌, List, [], ◌∷◌, ◌++◌, Bool, true, false, Option, Some, None, refl, sym, ap, ◌∙◌}
use Rattle.std.proofs.Common.{append-nil}
use Rattle.std.specs.Prelude.{if◌then◌else◌}
use Rattle.crash_model.specs.Disk.{Disk}
use Rattle.crash_model.specs.Atomic.{is_half_done, atomic_faults, ShowsSome}
use Rattle.crash_model.specs.Checker.{faults_showing}
use Rattle.crash_model.specs.declared.fault.Fault.{Fault}
use Rattle.crash_model.specs.declared.fault.Fault.TheVariants.{HalfDone}
use Rattle.crash_model.proofs.Demanded.{none_atomic}

listed_if : (test : Bool) → ¬ (test ≡ false) → HalfDone ∷ [] ≡ (if test then HalfDone ∷ [] else [])
listed_if true some = refl
listed_if false some = absurd (some refl)

listed : (disks : List Disk) (d : Disk) → ¬ (is_half_done disks d ≡ false) → HalfDone ∷ [] ≡ atomic_faults disks d
unfolding atomic_faults
listed disks d some = listed_if (is_half_done disks d) some

pub showing-listed : (disks : Option (List Disk)) (d : Disk) (found : List Fault) → ¬ (ShowsSome disks d)
    → found ++ HalfDone ∷ [] ≡ faults_showing disks d found
showing-listed None d found some = absurd (some tt)
showing-listed (Some disks) d found some = ap (λ (fs : List Fault). found ++ fs) (listed disks d some)

pub showing-none : (disks : Option (List Disk)) (d : Disk) (found : List Fault) → ShowsSome disks d
    → found ≡ faults_showing disks d found
showing-none None d found shows = refl
showing-none (Some disks) d found shows =
    sym (ap (λ (fs : List Fault). found ++ fs) (none_atomic disks d shows) ∙ append-nil found)
