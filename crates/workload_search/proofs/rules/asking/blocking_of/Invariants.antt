use Rattle.std.proofs.Common.{◌≡◌, ℕ, ◌%◌, ◌<◌, List, map, get_or}
use Rattle.workload_search.specs.Tries.{items_of}
use Rattle.workload_search.specs.Asked.{IsEnoughAt}
use Rattle.workload_search.proofs.rules.asking.blocking_of.Given as goal

abbrev pub invariant-loop-place : goal.invariant-loop-place
invariant-loop-place g l = (i : ℕ) → i < l.place → (d : List ℕ) → i % l.parts ≡ l.part
    → IsEnoughAt (g.J.RuleJudge.search l.judge) (get_or (map items_of l.workloads) i d) l.set
