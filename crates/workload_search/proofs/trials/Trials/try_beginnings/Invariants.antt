use Rattle.std.proofs.Common.{map, take}
use Rattle.workload_search.specs.Tries.{IsBatch, extensions, items_of}
use Rattle.workload_search.proofs.trials.Trials.try_beginnings.Given as goal

abbrev pub invariant-loop-beginning : goal.invariant-loop-beginning
invariant-loop-beginning g l = IsBatch (g.J.Judge.search l.self.judge.now) l.self.keeps
    (extensions l.self.pool (map items_of (take l.beginning-index l.beginnings))) l.batch
