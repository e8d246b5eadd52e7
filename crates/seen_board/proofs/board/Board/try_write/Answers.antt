use Rattle.std.proofs.Common.{rules, arith, ◌∙◌}
use Rattle.board_rule.specs.Layout.{writer}
use Rattle.board_rule.specs.Plays.{Takes}
use Rattle.board_rule.proofs.LockSteps.{seizes}
use Rattle.seen_board.proofs.AfterRights.{takes_right, takes_held, takes_limit, takes_places, takes_gains, takes_ok}
use Rattle.seen_board.proofs.board.Board.try_write.Goals as goal

pub compare_exchange-requires : goal.compare_exchange-requires
compare_exchange-requires g c = (
  search rules,
  search rules,
  seizes _ _ _ _ _ _ _ c.args.shard (search rules) c.requires.shard (search rules) (search rules) (search rules),
)

pub measure-requires-clause-seat : goal.measure-requires-clause-seat
measure-requires-clause-seat g c = let t : Takes c.seat.inside.seat.me.0 writer c.args.shard
    c.compare_exchange.new.seat.me.0 = c.compare_exchange.ensures.2.1 c.if-compare_exchange-ne0.false c.args.shard
    c.lock-lock.ensures in (search rules, takes_limit t ∙ search rules, takes_places t ∙ search rules)

pub measure-requires-clause-right : goal.measure-requires-clause-right
measure-requires-clause-right g c = let t : Takes c.seat.inside.seat.me.0 writer c.args.shard
    c.compare_exchange.new.seat.me.0 = c.compare_exchange.ensures.2.1 c.if-compare_exchange-ne0.false c.args.shard
    c.lock-lock.ensures in (c.requires.shard, takes_held t, omega (arith, takes_right t))

pub invariant_of-seat-2 : goal.invariant_of-seat-2
invariant_of-seat-2 g c = let t : Takes c.seat.inside.seat.me.0 writer c.args.shard c.compare_exchange.new.seat.me.0 =
    c.compare_exchange.ensures.2.1 c.if-compare_exchange-ne0.false c.args.shard c.lock-lock.ensures in
    takes_ok c.seat.inside.counts c.measure.result t c.compare_exchange.ensures.2.0 c.measure.ensures.same.2 c.seat.told
    c.seat.invariant c.requires.shard c.measure.ensures.length

pub returns-clause-seat : goal.returns-clause-seat
returns-clause-seat g c = let t : Takes c.seat.inside.seat.me.0 writer c.args.shard c.compare_exchange.new.seat.me.0 =
    c.compare_exchange.ensures.2.1 c.if-compare_exchange-ne0.false c.args.shard c.lock-lock.ensures in (
      search rules,
      rw c.measure.ensures.same.2 (takes_limit t ∙ search rules),
      rw c.measure.ensures.same.2 (takes_places t ∙ search rules),
    )

pub returns-clause-right : goal.returns-clause-right
returns-clause-right g c = let t : Takes c.seat.inside.seat.me.0 writer c.args.shard c.compare_exchange.new.seat.me.0 =
    c.compare_exchange.ensures.2.1 c.if-compare_exchange-ne0.false c.args.shard c.lock-lock.ensures in
    λ _. rw (← c.seat.view_is) (rw c.measure.ensures.same.2
    (takes_gains t c.seat.inside.seat.table_id c.measure.new.seat.table_id (search rules) c.seat.invariant.1.all
    c.requires.shard))
