-- The sublists of a list of rules that are enough.
use Rattle.std.specs.Prelude.{ℕ, ◌-◌, ◌^◌, List, length}
use Rattle.crash_model.specs.Checker.{Demands}
use Rattle.crash_model.specs.Disk.{Disk}
use Rattle.crash_model.specs.Tracing.{Tracing}
use Rattle.crash_model.specs.declared.rules.Rule.{Rule}
use Rattle.question_model.specs.Enough.{rules_in, AreEnough}

-- the rules of the set are enough
abbrev pub EnoughOf : Demands → Disk → Tracing → List Rule → ℕ → Type 0
EnoughOf demands base s rules set = AreEnough demands base s (rules_in rules set)

-- the set of all rules of the list
abbrev pub all_of : List Rule → ℕ
all_of rules = 2 ^ length rules - 1
