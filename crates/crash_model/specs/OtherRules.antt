-- The graph by other rules.
use Rattle.std.specs.Prelude.{List}
use Rattle.crash_model.specs.Disk.{Disk}
use Rattle.crash_model.specs.Tracing.{Tracing}
use Rattle.crash_model.specs.Trace.{IsGraphOf}
use Rattle.crash_model.specs.declared.patches.Patch.{Patch}
use Rattle.crash_model.specs.declared.rules.Rule.{Rule}

-- the patches of the trace by other rules
abbrev pub HasGraphBy : List Rule → Disk → Tracing → (List Patch → Type 0) → Type 0
HasGraphBy rules base s P = (changed : List Patch) × IsGraphOf rules base s changed × P changed
