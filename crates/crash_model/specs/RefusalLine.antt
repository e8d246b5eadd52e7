-- The line that a refusal is printed with.
use Rattle.std.specs.Prelude.{ℕ, Option, Some, None}
use Rattle.crash_model.specs.declared.refusals.RunFault.{RunFault}
use Rattle.crash_model.specs.declared.refusals.RunFault.TheVariants as run

-- the line that a refusal carries
abbrev pub line_of : RunFault → Option ℕ
line_of (run.TooManyPatches line) = Some line
line_of (run.NotFound line) = Some line
line_of (run.NotADirectory line) = Some line
line_of (run.Exists line) = Some line
line_of (run.NotAFile line) = Some line
line_of (run.NotEmpty line) = Some line
line_of (run.NoInode line) = Some line
line_of (run.NoBlock line) = Some line
line_of (run.DirectoryFull line) = Some line
line_of (run.FileFull line) = Some line
line_of (run.LinksFull line) = Some line
line_of (run.JournalFull line) = Some line
line_of (run.GroupFault line) = Some line
line_of (run.OnlyAfterStart line) = Some line
line_of (run.TooManySyncs line) = Some line
line_of (run.BadUtf8 line) = Some line
line_of (run.BadLine line) = Some line
line_of (run.BadPath line) = Some line
line_of (run.NoStart line) = Some line
line_of _ = None
