-- A patch as it is emitted, before its dependencies are known.
use Rattle.std.specs.Prelude.{ℕ, List, Option}
use Rattle.crash_model.specs.Patches.{Place}
use Rattle.crash_model.specs.declared.operations.Op.{Op}
use Rattle.crash_model.specs.declared.rules.Part.{Part}

-- where a patch comes from: its operation, with the line that has it in the script; the group that was open; and the
-- ids that lines before it wait for, as a set
pub record Origin : Type 0 where
  pub line : ℕ
  pub op : Op
  pub group : Option (List ℕ)
  pub waits_for : ℕ

abbrev pub origin_at : ℕ → Op → Option (List ℕ) → ℕ → Origin
origin_at line op group waits_for = record { line = line; op = op; group = group; waits_for = waits_for }

-- a patch without its dependencies: its place and bytes, what it is of its operation, and that operation's number,
-- from 1
pub record Emitted : Type 0 where
  pub place : Place
  pub part : Part
  pub op_number : ℕ
  pub origin : Origin
