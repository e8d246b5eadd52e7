-- Kinds of faults, their numbers and their words.
use Rattle.std.specs.Prelude.{ℕ, List, codes}
use Rattle.crash_model.specs.declared.fault.Fault.{Fault}
use Rattle.crash_model.specs.declared.fault.Fault.TheVariants as fault
use Rattle.crash_model.specs.declared.fault_kind.FaultKind.{FaultKind}
use Rattle.crash_model.specs.declared.fault_kind.FaultKind.TheVariants as kind

abbrev pub kind_of : Fault → FaultKind
kind_of (fault.Dangling d k i) = kind.Dangling
kind_of (fault.Twice b) = kind.Twice
kind_of (fault.Unwritten i s b) = kind.Unwritten
kind_of (fault.LowLinks i e l) = kind.LowLinks
kind_of (fault.MarkedFree i s b) = kind.MarkedFree
kind_of (fault.Wild i s b) = kind.Wild
kind_of (fault.Lost i) = kind.Lost
kind_of (fault.NoBlock i) = kind.NoBlock
kind_of fault.HalfDone = kind.HalfDone
kind_of (fault.BrokenPromise line) = kind.BrokenPromise

-- the number that a fault's text begins with
abbrev pub kind_number : FaultKind → ℕ
kind_number kind.Dangling = 1
kind_number kind.Twice = 2
kind_number kind.Unwritten = 3
kind_number kind.LowLinks = 4
kind_number kind.MarkedFree = 5
kind_number kind.Wild = 6
kind_number kind.Lost = 7
kind_number kind.NoBlock = 8
kind_number kind.HalfDone = 9
kind_number kind.BrokenPromise = 10

-- the words after it
abbrev pub kind_name : FaultKind → List ℕ
kind_name kind.Dangling = codes "dangling entry"
kind_name kind.Twice = codes "block used twice"
kind_name kind.Unwritten = codes "unwritten pointer"
kind_name kind.LowLinks = codes "low link count"
kind_name kind.MarkedFree = codes "used block marked free"
kind_name kind.Wild = codes "wild pointer"
kind_name kind.Lost = codes "lost inode"
kind_name kind.NoBlock = codes "directory without a block"
kind_name kind.HalfDone = codes "half-done operation"
kind_name kind.BrokenPromise = codes "broken promise"

-- the number of a fault's kind, with which its text begins
abbrev pub fault_number : Fault → ℕ
fault_number f = kind_number (kind_of f)
