use Rattle.std.proofs.Common.{◌≡◌, ℕ, ◌<◌, ◌≤◌, length, slice_index}
use Rattle.std.specs.Prelude.{max}
use Rattle.seen_board.proofs.split_and_join.larger_counts.Given as goal

abbrev pub invariant-loop-q : goal.invariant-loop-q
invariant-loop-q l = record {
  size : length l.counts ≡ 13;
  done : (p : ℕ) → p < l.q → slice_index l.counts p ≡ max (slice_index l.first p) (slice_index l.second p);
  rest : (p : ℕ) → l.q ≤ p → slice_index l.counts p ≡ slice_index l.first p;
}
