-- A set has a fault that counts: a broken promise, or a fault of the disk that it leaves after replay.
use Rattle.std.specs.Prelude.{ℕ, Bool, true, ◌&&◌, Option, Some, None}
use Rattle.patch_sets.specs.Sets.{has}
use Rattle.crash_model.specs.Disk.{Disk}
use Rattle.crash_model.specs.Checker.{Demands, promised}
use Rattle.crash_model.specs.FaultKinds.{fault_number}
use Rattle.crash_model.specs.Promises.{breaks_line}
use Rattle.crash_model.specs.declared.fault.Fault.{Fault}
use Rattle.crash_model.specs.declared.fault.Fault.TheVariants.{BrokenPromise}
use Rattle.known_bytes.specs.Texts.{has_fault}

-- faults of its number count
abbrev pub does_count : Option ℕ → Fault → Bool
does_count None fault = true
does_count (Some counted) fault = has counted (fault_number fault)

-- the set, which leaves the disk, has the fault, whether it counts or not
abbrev pub is_of_set : Demands → ℕ → Disk → Fault → Bool
is_of_set demands set d (BrokenPromise line) = breaks_line (promised demands.promises) set d line
is_of_set demands set d fault = has_fault demands d fault

abbrev pub set_has_fault : Demands → ℕ → Disk → Fault → Bool
set_has_fault demands set d fault = does_count demands.counted fault && is_of_set demands set d fault
