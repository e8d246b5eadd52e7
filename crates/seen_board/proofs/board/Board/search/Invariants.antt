use Rattle.std.proofs.Common.{◌≡◌, ◌≢◌, ℕ, ◌+◌, ◌<◌, slice_index}
use Rattle.board_rule.specs.Layout.{slot}
use Rattle.board_rule.specs.Lists.{row_of}
use Rattle.seen_board.proofs.board.Board.search.Given as goal

abbrev pub invariant-loop-t : goal.invariant-loop-t
invariant-loop-t g l = record {
  table : l.seat.table_id ≡ l.initial.seat.table_id;
  id : l.seat.id ≡ l.initial.seat.id;
  same : l.seat.me ≡ l.initial.seat.me;
  missed : (u k : ℕ) → u < l.t → slice_index l.initial.seat.me.0.rows.marks (slot l.initial.self.places l.probe.word u)
      ≡ k + 1 → slice_index (row_of l.initial.seat.me.0.rows.seen l.probe.shard) k ≢ l.probe.word;
}
