use Rattle.std.proofs.Common.{ℕ, List, ◌++◌, ◌∷◌, [], map}
use Rattle.std.specs.List.{range_with_len}
use Rattle.workload_search.specs.Tries.{IsBatch}
use Rattle.workload_search.proofs.trials.Trials.try_places.Given as goal

abbrev pub invariant-loop-place : goal.invariant-loop-place
invariant-loop-place g l =
    (sequences : List (List ℕ)) → IsBatch (g.J.Judge.search l.self.judge.now) l.self.keeps sequences l.initial.batch
    → IsBatch (g.J.Judge.search l.self.judge.now) l.self.keeps
    (sequences ++ map (λ place. l.beginning.items ++ place ∷ []) (range_with_len 0 l.place)) l.batch
