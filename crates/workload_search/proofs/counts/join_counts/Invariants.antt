use Rattle.std.proofs.Common.{◌≡◌, ℕ, ◌+◌, ◌<◌, ◌≤◌, length, get_or}
use Rattle.workload_search.proofs.counts.join_counts.Given as goal

abbrev pub invariant-loop-i : goal.invariant-loop-i
invariant-loop-i l = record {
  long : length l.counts ≡ length l.initial.counts;
  done : (k : ℕ) → k < l.i → get_or l.counts k 0 ≡ get_or l.initial.counts k 0 + get_or l.later k 0;
  rest : (k : ℕ) → l.i ≤ k → get_or l.counts k 0 ≡ get_or l.initial.counts k 0;
}
