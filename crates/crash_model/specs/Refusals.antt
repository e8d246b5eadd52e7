-- What a run's refusal is made of.
use Rattle.std.specs.Prelude.{ℕ}
use Rattle.crash_model.specs.declared.refusals.FsFault.{FsFault}
use Rattle.crash_model.specs.declared.refusals.FsFault.TheVariants as fs
use Rattle.crash_model.specs.declared.refusals.TraceFault.{TraceFault}
use Rattle.crash_model.specs.declared.refusals.TraceFault.TheVariants as trace
use Rattle.crash_model.specs.declared.refusals.ScriptFault.{ScriptFault}
use Rattle.crash_model.specs.declared.refusals.ScriptFault.TheVariants as script
use Rattle.crash_model.specs.declared.refusals.RunFault.{RunFault}
use Rattle.crash_model.specs.declared.refusals.RunFault.TheVariants as run

-- an operation's refusal at a line
abbrev pub trace_fault : ℕ → FsFault → TraceFault
trace_fault line fs.NotFound = trace.NotFound line
trace_fault line fs.NotADirectory = trace.NotADirectory line
trace_fault line fs.Exists = trace.Exists line
trace_fault line fs.NotAFile = trace.NotAFile line
trace_fault line fs.NotEmpty = trace.NotEmpty line
trace_fault line fs.NoInode = trace.NoInode line
trace_fault line fs.NoBlock = trace.NoBlock line
trace_fault line fs.DirectoryFull = trace.DirectoryFull line
trace_fault line fs.FileFull = trace.FileFull line
trace_fault line fs.LinksFull = trace.LinksFull line

abbrev pub run_of_trace : TraceFault → RunFault
run_of_trace (trace.TooManyPatches line) = run.TooManyPatches line
run_of_trace (trace.NotFound line) = run.NotFound line
run_of_trace (trace.NotADirectory line) = run.NotADirectory line
run_of_trace (trace.Exists line) = run.Exists line
run_of_trace (trace.NotAFile line) = run.NotAFile line
run_of_trace (trace.NotEmpty line) = run.NotEmpty line
run_of_trace (trace.NoInode line) = run.NoInode line
run_of_trace (trace.NoBlock line) = run.NoBlock line
run_of_trace (trace.DirectoryFull line) = run.DirectoryFull line
run_of_trace (trace.FileFull line) = run.FileFull line
run_of_trace (trace.LinksFull line) = run.LinksFull line
run_of_trace (trace.JournalFull line) = run.JournalFull line
run_of_trace (trace.GroupFault line) = run.GroupFault line
run_of_trace (trace.OnlyAfterStart line) = run.OnlyAfterStart line
run_of_trace trace.OutOfMemory = run.OutOfMemory

abbrev pub run_of_script : ScriptFault → RunFault
run_of_script (script.BadUtf8 line) = run.BadUtf8 line
run_of_script (script.BadLine line) = run.BadLine line
run_of_script (script.BadPath line) = run.BadPath line
run_of_script (script.NoStart line) = run.NoStart line
run_of_script script.OutOfMemory = run.OutOfMemory
