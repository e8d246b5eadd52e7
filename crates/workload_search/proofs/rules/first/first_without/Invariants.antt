use Rattle.std.proofs.Common.{ℕ, ◌<◌, List, map, get_or}
use Rattle.question_model.specs.Enough.{rules_but}
use Rattle.question_model.specs.Workloads.{Fails}
use Rattle.question_model.specs.EnoughFor.{search_with}
use Rattle.workload_search.specs.Tries.{items_of}
use Rattle.workload_search.proofs.rules.first.first_without.Given as goal

abbrev pub invariant-loop-places : goal.invariant-loop-places
invariant-loop-places g l = (i : ℕ) (d : List ℕ) → i < l.places-index
    → ¬ (Fails (search_with (g.J.RuleJudge.search l.judge) (rules_but (g.J.RuleJudge.search l.judge).rules l.group))
    (get_or (map items_of l.passing) i d))
