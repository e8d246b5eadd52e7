-- Faults that sets have, and the first sets that have them.
use Rattle.std.specs.Prelude.{◌≡◌, ℕ, List, true, Option, MatchOption}
use Rattle.std.specs.List.{Contains}
use Rattle.crash_model.specs.Checker.{Demands}
use Rattle.crash_model.specs.Patches.{image_of}
use Rattle.crash_model.specs.Replay.{image_after_replay}
use Rattle.crash_model.specs.FirstSets.{HasFault, IsFirst}
use Rattle.crash_model.specs.declared.fault.Fault.{Fault}
use Rattle.question_model.specs.Decided.{IsFirstDecided}
use Rattle.question_model.specs.declared.decided_fault.DecidedFault.{DecidedFault}
use Rattle.known_bytes.specs.Chains.{Change}
use Rattle.known_bytes.specs.Family.{Family}
use Rattle.known_bytes.specs.SetFaults.{set_has_fault}
use Rattle.set_families.specs.declared.family.Family.{Family as Held}

-- the sets of a change that hold and bar what a family says
abbrev pub family_of : Change → Held → Family
family_of c family = record { base = c.base; patches = c.patches; held = family.held; barred = family.barred }

-- the test finds the fault in a set, with the image that it leaves after replay
abbrev pub LeavesFault : Demands → Change → Fault → ℕ → Type 0
LeavesFault demands c fault set =
    set_has_fault demands set (image_after_replay (image_of c.base c.patches set)) fault ≡ true

-- a failing set of the patches has the fault
abbrev pub HasFaultOf : Demands → Change → Fault → ℕ → Type 0
HasFaultOf demands c = HasFault demands c.base c.patches

-- the test finds each fault that a failing set has
abbrev pub AreFoundByTest : Demands → Change → Type 0
AreFoundByTest demands c = (fault : Fault) (set : ℕ) → HasFaultOf demands c fault set → LeavesFault demands c fault set

-- each fault that a set has is in the list
abbrev pub AreAllOf : (Fault → ℕ → Type 0) → List Fault → Type 0
AreAllOf has faults = (fault : Fault) (set : ℕ) → has fault set → Contains faults fault

-- the first set that has a fault, or none if none has it
abbrev pub IsFirstWith : (Fault → ℕ → Type 0) → Fault → Option ℕ → Type 0
IsFirstWith has fault first = MatchOption first ((set : ℕ) → ¬ (has fault set)) (IsFirst (has fault))

-- the first of the faults that sets have, with the first set that has it, or none where no set has a fault
abbrev pub IsFirstFault : (Fault → ℕ → Type 0) → Option DecidedFault → Type 0
IsFirstFault has found = MatchOption found ((fault : Fault) (set : ℕ) → ¬ (has fault set)) (IsFirstDecided has)
