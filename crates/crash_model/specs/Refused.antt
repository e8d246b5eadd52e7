-- Why an operation of a pool cannot follow a beginning.
use Rattle.std.specs.Prelude.{ℕ, List, codes, Option, Some, None}
use Rattle.crash_model.specs.declared.refusals.TraceFault.{TraceFault}
use Rattle.crash_model.specs.declared.refusals.TraceFault.TheVariants as trace
use Rattle.crash_model.specs.declared.refusal.Refusal.{Refusal}
use Rattle.crash_model.specs.declared.refusal.Refusal.TheVariants as refused

-- the refusal without its line; that of a line that no pool has is not an operation's
abbrev pub refusal_of : TraceFault → Option Refusal
refusal_of (trace.TooManyPatches line) = Some refused.TooManyPatches
refusal_of (trace.NotFound line) = Some refused.NotFound
refusal_of (trace.NotADirectory line) = Some refused.NotADirectory
refusal_of (trace.Exists line) = Some refused.Exists
refusal_of (trace.NotAFile line) = Some refused.NotAFile
refusal_of (trace.NotEmpty line) = Some refused.NotEmpty
refusal_of (trace.NoInode line) = Some refused.NoInode
refusal_of (trace.NoBlock line) = Some refused.NoBlock
refusal_of (trace.DirectoryFull line) = Some refused.DirectoryFull
refusal_of (trace.FileFull line) = Some refused.FileFull
refusal_of (trace.LinksFull line) = Some refused.LinksFull
refusal_of (trace.JournalFull line) = Some refused.JournalFull
refusal_of (trace.GroupFault line) = None
refusal_of (trace.OnlyAfterStart line) = None
refusal_of trace.OutOfMemory = None

abbrev pub refusal_number : Refusal → ℕ
refusal_number refused.TooManyPatches = 2
refusal_number refused.NotFound = 10
refusal_number refused.NotADirectory = 11
refusal_number refused.Exists = 12
refusal_number refused.NotAFile = 13
refusal_number refused.NotEmpty = 14
refusal_number refused.NoInode = 15
refusal_number refused.NoBlock = 16
refusal_number refused.DirectoryFull = 17
refusal_number refused.FileFull = 18
refusal_number refused.LinksFull = 19
refusal_number refused.JournalFull = 20

abbrev pub refusal_text : Refusal → List ℕ
refusal_text refused.TooManyPatches = codes "too many patches"
refusal_text refused.NotFound = codes "not found"
refusal_text refused.NotADirectory = codes "not a directory"
refusal_text refused.Exists = codes "exists"
refusal_text refused.NotAFile = codes "not a file"
refusal_text refused.NotEmpty = codes "not empty"
refusal_text refused.NoInode = codes "no free inode"
refusal_text refused.NoBlock = codes "no free block"
refusal_text refused.DirectoryFull = codes "directory full"
refusal_text refused.FileFull = codes "file full"
refusal_text refused.LinksFull = codes "too many links"
refusal_text refused.JournalFull = codes "journal full"
