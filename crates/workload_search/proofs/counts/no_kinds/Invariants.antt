use Rattle.std.proofs.Common.{◌≡◌, length}
use Rattle.std.specs.List.{All}
use Rattle.workload_search.proofs.Tallied.{IsEmpty}
use Rattle.workload_search.proofs.counts.no_kinds.Given as goal

abbrev pub invariant-loop-kind : goal.invariant-loop-kind
invariant-loop-kind g l = record { long : length l.kinds.items ≡ l._kind; empty : All IsEmpty l.kinds.items }
