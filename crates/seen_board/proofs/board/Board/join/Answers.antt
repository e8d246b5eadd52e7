use Rattle.std.proofs.Common.{rules, ◌≡◌, ◌<◌}
use Rattle.board_rule.specs.Changes.{both_views}
use Rattle.board_rule.proofs.LockSteps.{places}
use Rattle.board_rule.proofs.Seats.{joins}
use Rattle.seen_board.proofs.AfterJoins.{join_knows, join_first, join_second, join_counts, join_idle}
use Rattle.seen_board.proofs.board.Board.join.Goals as goal

pub join_seat-requires : goal.join_seat-requires
join_seat-requires g c = (
  search rules,
  search rules,
  search rules,
  search rules,
  joins _ _ _ _ _ _ _ (search rules) (search rules) (search rules) (search rules) (search rules) (search rules),
)

pub load-requires : goal.load-requires
load-requires g c = (search rules, search rules, places _ _ _ _ _ _ _)

pub invariant_of-seat : goal.invariant_of-seat
invariant_of-seat g c = let v = c.seat.inside.seat.me.0 in let w = c.other.inside.seat.me.0 in
    let near : (both_views v w).rows.held < 13 = rw c.join_seat.ensures.2 at c.load.ensures.2.1 in
    let i = c.seat.invariant in let j = c.other.invariant in
    let one : w.places ≡ v.places = search rules in
    rw c.load.ensures.2.0 (rw c.join_seat.ensures.2 (
      (i.0.0, i.0.1, join_idle v w i.0.2),
      join_counts v w near i.1.all j.1.all v.places c.seat.inside.counts c.other.inside.counts
          c.larger_counts-counts.result i.1 (rw one at j.1) c.larger_counts-counts.ensures,
    ))

pub returns-clause-both : goal.returns-clause-both
returns-clause-both g c = let v = c.seat.inside.seat.me.0 in let w = c.other.inside.seat.me.0 in
    let near : (both_views v w).rows.held < 13 = rw c.join_seat.ensures.2 at c.load.ensures.2.1 in
    rw (← c.seat.view_is) (rw (← c.other.view_is) (rw c.load.ensures.2.0
    (rw c.join_seat.ensures.2 (join_knows v w near c.seat.invariant.1.all c.other.invariant.1.all
    c.seat.inside.seat.table_id c.load.new.seat.table_id c.other.inside.seat.table_id (search rules)))))

pub returns-clause-first : goal.returns-clause-first
returns-clause-first g c = let v = c.seat.inside.seat.me.0 in let w = c.other.inside.seat.me.0 in
    let near : (both_views v w).rows.held < 13 = rw c.join_seat.ensures.2 at c.load.ensures.2.1 in
    rw (← c.seat.view_is) (rw c.load.ensures.2.0 (rw c.join_seat.ensures.2
    (join_first v w near c.seat.invariant.1.all c.other.invariant.1.all)))

pub returns-clause-second : goal.returns-clause-second
returns-clause-second g c = let v = c.seat.inside.seat.me.0 in let w = c.other.inside.seat.me.0 in
    let near : (both_views v w).rows.held < 13 = rw c.join_seat.ensures.2 at c.load.ensures.2.1 in
    rw (← c.other.view_is) (rw c.load.ensures.2.0 (rw c.join_seat.ensures.2
    (join_second v w near c.seat.invariant.1.all c.other.invariant.1.all)))
