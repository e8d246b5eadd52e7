-- Which rules of an ordering are enough for all workloads of a search together.
use Rattle.std.specs.Prelude.{ℕ, List}
use Rattle.crash_model.specs.declared.rules.Rule.{Rule}
use Rattle.question_model.specs.MinimalRules.{IsMinimalFor, IsNeededFor}
use Rattle.question_model.specs.Workloads.{Search, IsWorkload, Fails}

-- the same search by other rules
abbrev pub search_with : Search → List Rule → Search
search_with s rules = record s { rules = rules }

-- a workload that does not fail
abbrev pub IsPassing : Search → List ℕ → Type 0
IsPassing s places = IsWorkload s places × (¬ (Fails s places))

-- a workload that does not fail by the rules of the search, and fails by these
abbrev pub FailsBy : Search → List Rule → List ℕ → Type 0
FailsBy s rules places = IsPassing s places × Fails (search_with s rules) places

-- these rules are enough: no workload that does not fail by the rules of the search fails by them
abbrev pub AreEnoughFor : Search → List Rule → Type 0
AreEnoughFor s rules = (places : List ℕ) → ¬ (FailsBy s rules places)

-- a minimal set of the search's rules that are enough
abbrev pub IsMinimalInSearch : Search → ℕ → Type 0
IsMinimalInSearch s set = IsMinimalFor (AreEnoughFor s) s.rules set

-- a minimal group of its rules of which one is needed
abbrev pub IsNeededInSearch : Search → ℕ → Type 0
IsNeededInSearch s group = IsNeededFor (AreEnoughFor s) s.rules group
