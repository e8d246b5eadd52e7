use Rattle.std.specs.Prelude.{◌≡◌, ◌+◌, length}
use Rattle.std.specs.List.{All}
use Rattle.std.proofs.Common.{vec_len}
use Rattle.board_rule.specs.Lists.{Has}
use Rattle.seen_board.specs.Ended.{claims_made}
use Rattle.explorers.specs.Ready.{IsIdle, IsReady}
use Rattle.explorers.specs.Shares.{MakeWhole}
use Rattle.explorers.proofs.exploring.new_workers.Given as goal

abbrev pub invariant-loop-hand : goal.invariant-loop-hand
invariant-loop-hand g l = record {
  idle : IsIdle l.board l.seat;
  made : claims_made l.seat ≡ claims_made l.fn.seat;
  shares : MakeWhole l.seat.share (λ worker. worker.seat.share) l.workers.items;
  start : Has l.seat.seen (g.S.Space.initial l.space);
  ready : All (IsReady l.board l.space g.S.Space.is_own) l.workers.items;
  ways : All (λ hand. length hand.ways ≡ l.count) l.hands.items;
  count : length l.workers.items + length l.hands.items ≡ l.count;
}

abbrev pub decreases-loop-hand : goal.decreases-loop-hand
decreases-loop-hand g l = vec_len l.hands
