-- What is reported of the sets that a crash can leave.
use Rattle.std.specs.Prelude.{ℕ, List, Bool, ◌≡◌, ◌&&◌, map, is_some}
use Rattle.std.specs.List.{All}
use Rattle.report.specs.Parts.{Crash, Section}
use Rattle.patch_sets.specs.declared.write.BlockWrite.{BlockWrite}
use Rattle.report.specs.declared.found.FoundFault.{FoundFault}
use Rattle.crash_model.specs.Disk.{Disk}
use Rattle.crash_model.specs.declared.patches.Patch.{Patch}
use Rattle.patch_sets.specs.Writes.{AreRuns, events_of}
use Rattle.crash_model.specs.Patches.{homes_of, image_of, deps_of}
use Rattle.crash_model.specs.Replay.{image_after_replay}
use Rattle.crash_model.specs.declared.fault.Fault.{Fault}
use Rattle.crash_model.specs.Checker.{Demands, faults_under}
use Rattle.patch_sets.specs.Machine.{LeadTo}
use Rattle.report.specs.Explaining.{replay_of, shows_of}

-- what is reported of a set: whether replay and promises are explained, and what is demanded of the image
pub record Detail : Type 0 where
  pub explain : Bool
  pub demands : Demands

abbrev pub found_of : Detail → ℕ → Disk → Fault → FoundFault
found_of detail set d fault = record { fault = fault; shows = shows_of detail.explain detail.demands set d fault }

-- the crash that leaves a set by these block writes
abbrev pub crash_of : Detail → Disk → List Patch → ℕ → List BlockWrite → Crash
crash_of detail base patches set writes = record {
  set = set;
  writes = writes;
  replay = replay_of detail.explain (image_of base patches set);
  explained = detail.explain;
  shows = detail.explain && is_some detail.demands.promises;
}

abbrev pub section_of : Detail → Disk → List Patch → ℕ → List BlockWrite → Section
section_of detail base patches set writes =
    let image = image_after_replay (image_of base patches set) in
    record {
      crash = crash_of detail base patches set writes;
      faults = map (found_of detail set image) (faults_under detail.demands set image);
    }

-- block writes that lead to the set, and what else is reported of it
pub record IsSection (detail : Detail) (base : Disk) (patches : List Patch) (s : Section) : Type 0 where
  pub runs : AreRuns (homes_of patches) s.crash.set s.crash.writes
  pub whole : s ≡ section_of detail base patches s.crash.set s.crash.writes

-- a section for each of these sets, in their order
pub record AreSections (detail : Detail) (base : Disk) (patches : List Patch) (sets : List ℕ)
    (sections : List Section) : Type 0 where
  pub of_sets : map (λ s. s.crash.set) sections ≡ sets
  pub each : All (IsSection detail base patches) sections

-- a crash's block writes lead to its set
abbrev pub IsLed : List Patch → Crash → Type 0
IsLed patches c = LeadTo (deps_of patches) (homes_of patches) (events_of c.writes) c.set
