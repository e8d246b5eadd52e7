-- The trace after a line that waits.
use Rattle.std.specs.Prelude.{ℕ, [], ◌∷◌, ◌++◌, Result, Ok, Err, bit_or}
use Rattle.crash_model.specs.Disk.{Disk}
use Rattle.crash_model.specs.Plan.{at_entry}
use Rattle.crash_model.specs.Refusals.{trace_fault}
use Rattle.crash_model.specs.declared.refusals.FsFault.{FsFault}
use Rattle.crash_model.specs.declared.refusals.TraceFault.{TraceFault}
use Rattle.crash_model.specs.declared.steps.Target.{Target}
use Rattle.crash_model.specs.declared.steps.Target.TheVariants.{Root, At}
use Rattle.crash_model.specs.declared.steps.Act.{Act}
use Rattle.crash_model.specs.Tracing.{Tracing}

-- the inode of a target, or how the walk to it is refused
abbrev pub target_found : Disk → Target → Result ℕ FsFault
target_found d Root = Ok 0
target_found d (At path) = at_entry d path (λ dir k inode. Ok inode)

-- the trace after a line, unless a walk is refused
abbrev pub when_found : ℕ → Result ℕ FsFault → Tracing → Result Tracing TraceFault
when_found line (Err e) next = Err (trace_fault line e)
when_found line (Ok _) next = Ok next

-- with a line that waits for ids
abbrev pub with_wait : ℕ → Act → ℕ → Tracing → Tracing
with_wait line act ids s = record s {
  forced = bit_or s.forced ids;
  waits = s.waits ++ record { line = line; act = act; ids = ids } ∷ [];
}
