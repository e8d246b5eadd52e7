use Rattle.std.proofs.Common.{◌≡◌, ◌≢◌, ℕ, ◌<◌, ◌≤◌, slice_index}
use Rattle.board_rule.specs.Lists.{row_of}
use Rattle.seen_board.proofs.board.Board.walk.Given as goal

abbrev pub invariant-loop-at : goal.invariant-loop-at
invariant-loop-at g l = record {
  same : l.seat ≡ l.initial.seat;
  before : (k : ℕ) → l.fn.from ≤ k → k < l.at
      → slice_index (row_of l.initial.seat.seen l.shard) k ≢ l.word;
}
