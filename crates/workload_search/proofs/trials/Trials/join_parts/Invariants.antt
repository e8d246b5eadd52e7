use Rattle.std.proofs.Common.{◌≡◌, ◌++◌, length}
use Rattle.workload_search.proofs.Parts.{AreBefore}
use Rattle.workload_search.proofs.trials.Trials.join_parts.Given as goal

abbrev pub invariant-loop-part : goal.invariant-loop-part
invariant-loop-part g l = record {
  parts : l.yielded ++ l.part-iterator.rest.items ≡ l.fn.parts.items;
  joined : AreBefore (g.J.Judge.search l.self.judge.now) l.self.keeps l.self.pool l.beginnings l.size
      (length l.yielded) l.joined;
}
