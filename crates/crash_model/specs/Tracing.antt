-- The state in which tracing stands between two lines.
use Rattle.std.specs.Prelude.{ℕ, List, [], Bool, Option, None}
use Rattle.crash_model.specs.declared.disk_bytes.TheConstants.{JOURNAL_AT}
use Rattle.crash_model.specs.Disk.{Disk}
use Rattle.crash_model.specs.Waiting.{Wait}
use Rattle.crash_model.specs.Emitted.{Emitted}

pub record Tracing : Type 0 where
  -- the disk after the operations so far, and their patches
  pub disk : Disk
  pub emitted : List Emitted
  -- the number of the next operation, and the next free journal block
  pub op_number : ℕ
  pub journal : ℕ
  -- whether blocks are written whole
  pub whole : Bool
  -- the groups: the open one, those that were opened, those that have ended, and the pairs (B, A)
  pub current : Option (List ℕ)
  pub opened : List (List ℕ)
  pub ended : List (List ℕ)
  pub links : List (List ℕ × List ℕ)
  -- the ids that lines so far wait for, as a set, and these lines
  pub forced : ℕ
  pub waits : List Wait

abbrev pub trace_start : Bool → Disk → Tracing
trace_start whole base = record {
  disk = base;
  emitted = [];
  op_number = 1;
  journal = JOURNAL_AT;
  whole = whole;
  current = None;
  opened = [];
  ended = [];
  links = [];
  forced = 0;
  waits = [];
}
