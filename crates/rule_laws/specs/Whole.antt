-- A trace, except whether blocks are written whole.
use Rattle.std.specs.Prelude.{Bool, Result, Ok, Err}
use Rattle.crash_model.specs.Tracing.{Tracing}
use Rattle.crash_model.specs.declared.refusals.TraceFault.{TraceFault}

abbrev pub with_whole : Bool → Tracing → Tracing
with_whole whole s = record s { whole = whole }

-- the same where a trace can be refused
abbrev pub written_whole : Bool → Result Tracing TraceFault → Result Tracing TraceFault
written_whole whole (Ok s) = Ok (with_whole whole s)
written_whole whole (Err fault) = Err fault
