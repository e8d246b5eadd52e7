-- Sections and first crashes from their parts.
use Rattle.std.proofs.Common.{◌≡◌, ℕ, List, map, subst, sym, ap, ap₂}
use Rattle.patch_sets.specs.Writes.{AreRuns}
use Rattle.crash_model.specs.Checker.{faults_under}
use Rattle.crash_model.specs.Disk.{Disk}
use Rattle.crash_model.specs.Patches.{homes_of, image_of}
use Rattle.crash_model.specs.Replay.{image_after_replay}
use Rattle.crash_model.specs.declared.fault.Fault.{Fault}
use Rattle.crash_model.specs.declared.patches.Patch.{Patch}
use Rattle.crash_image.specs.Moves.{Applied}
use Rattle.report.specs.Made.{Detail, IsSection, crash_of, found_of}
use Rattle.report.specs.FirstCrashes.{IsFirstCrash}
use Rattle.report.specs.Parts.{Crash, Section}
use Rattle.report.specs.declared.found.FoundFault.{FoundFault}

module _ (detail : Detail) (base : Disk) (patches : List Patch) where
  abbrev image_at : ℕ → Disk
  image_at set = image_after_replay (image_of base patches set)

  -- a crash that leaves a set
  pub record IsCrashOf (set : ℕ) (crash : Crash) : Type 0 where
    pub of_set : crash.set ≡ set
    pub runs : AreRuns (homes_of patches) crash.set crash.writes
    pub whole : crash ≡ crash_of detail base patches set crash.writes

  pub section_made : (set : ℕ) (crash : Crash) (found : List FoundFault) → IsCrashOf set crash
      → found ≡ map (found_of detail set (image_at set)) (faults_under detail.demands set (image_at set))
      → IsSection detail base patches (record { crash = crash; faults = found })
  section_made set crash found is are =
      let section : Crash → List FoundFault → Section = λ c fs. record { crash = c; faults = fs } in
      record {
        runs = is.runs;
        whole = ap₂ section
            (subst (λ (k : ℕ). crash ≡ crash_of detail base patches k crash.writes) (sym is.of_set) is.whole)
            (subst (λ (k : ℕ). found
            ≡ map (found_of detail k (image_at k)) (faults_under detail.demands k (image_at k)))
            (sym is.of_set) are);
      }

  pub first_made : (set : ℕ) (crash : Crash) (found : FoundFault) (fault : Fault) → IsCrashOf set crash
      → found ≡ found_of detail set (image_at set) fault
      → IsFirstCrash detail base patches (record { fault = found; crash = crash })
  first_made set crash found fault is same = record {
    runs = is.runs;
    fault = subst (λ (k : ℕ). found ≡ found_of detail k (image_at k) found.fault) (sym is.of_set)
        (subst (λ (f : Fault). found ≡ found_of detail set (image_at set) f)
        (sym (ap (λ (one : FoundFault). one.fault) same)) same);
    crash = subst (λ (k : ℕ). crash ≡ crash_of detail base patches k crash.writes) (sym is.of_set) is.whole;
  }

-- where the images are moved to a set
module _ (detail : Detail) (images moved : Applied) (set : ℕ) (moved_to : moved ≡ record images { set = set }) where
  pub moved_crash : (crash : Crash) (graph : List Patch) → images.patches ≡ graph → crash.set ≡ set
      → AreRuns (homes_of graph) crash.set crash.writes → crash ≡ crash_of detail moved.base graph set crash.writes
      → IsCrashOf detail images.base images.patches set crash
  moved_crash crash graph same of_set runs whole = record {
    of_set = of_set;
    runs = subst (λ (ps : List Patch). AreRuns (homes_of ps) crash.set crash.writes) (sym same) runs;
    whole = subst (λ (ps : List Patch). crash ≡ crash_of detail images.base ps set crash.writes) (sym same)
        (subst (λ (m : Applied). crash ≡ crash_of detail m.base graph set crash.writes) moved_to whole);
  }

  abbrev image_moved : Disk
  image_moved = image_after_replay (image_of images.base images.patches set)

  pub moved_image : (image : Disk) → image ≡ image_after_replay (image_of moved.base moved.patches moved.set)
      → image ≡ image_moved
  moved_image image is =
      subst (λ (m : Applied). image ≡ image_after_replay (image_of m.base m.patches m.set)) moved_to is

  pub moved_fault : (image : Disk) (fault : Fault) (found : FoundFault)
      → image ≡ image_after_replay (image_of moved.base moved.patches moved.set)
      → found ≡ found_of detail set image fault → found ≡ found_of detail set image_moved fault
  moved_fault image fault found is same =
      subst (λ (d : Disk). found ≡ found_of detail set d fault) (moved_image image is) same

  pub moved_faults : (image : Disk) (found : List FoundFault)
      → image ≡ image_after_replay (image_of moved.base moved.patches moved.set)
      → found ≡ map (found_of detail set image) (faults_under detail.demands set image)
      → found ≡ map (found_of detail set image_moved) (faults_under detail.demands set image_moved)
  moved_faults image found is are =
      subst (λ (d : Disk). found ≡ map (found_of detail set d) (faults_under detail.demands set d))
      (moved_image image is) are
