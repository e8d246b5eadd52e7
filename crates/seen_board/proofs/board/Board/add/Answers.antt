use Rattle.std.proofs.Common.{rules, arith, ◌∙◌, ◌≡◌, ◌<◌, length, get_or}
use Rattle.board_rule.specs.Lists.{row_of}
use Rattle.seen_board.proofs.AfterInserts.{appends_knows, appends_over, appends_sees, appends_there, appends_idle}
use Rattle.seen_board.proofs.AfterInserts.{appends_places, appends_counts}
use Rattle.seen_board.proofs.board.Board.add.Goals as goal

pub append-within-requires-clause-claim : goal.append-within-requires-clause-claim
append-within-requires-clause-claim g c = rw (← c.seat.view_is) at c.requires.successor

pub overflow_add-seat : goal.overflow_add-seat
overflow_add-seat g c = let near : c.args.probe.shard < 13 = omega (arith, c.requires.probe.0) in
    omega (
      arith,
      c.seat.invariant.1.each c.args.probe.shard near,
      c.seat.invariant.1.short c.args.probe.shard near,
      c.seat.invariant.1.small,
    )

pub invariant_of-seat : goal.invariant_of-seat
invariant_of-seat g c = let v = c.seat.inside.seat.me.0 in let held : v.rows.held ≡ c.args.probe.shard = search rules in
    let near : c.args.probe.shard < 13 = omega (arith, c.requires.probe.0) in let i = c.seat.invariant in
    let t = c.append-within.ensures.view in let at : get_or c.seat.inside.counts c.args.probe.shard 0
    ≡ length (row_of v.rows.seen c.args.probe.shard) = i.1.each c.args.probe.shard near in
    let informed : v.places ≡ c.args.self.now.places = search rules in
    let room : get_or c.seat.inside.counts c.args.probe.shard 0 < v.places =
    omega (arith, at, informed, rw (← c.seat.view_is) at c.requires.room) in (
      (
        c.append-within.ensures.seat.1 ∙ i.0.0,
        omega (
          arith,
          i.0.1,
          appends_places t c.args.probe.shard (get_or c.seat.inside.counts c.args.probe.shard 0) held near i.1.all at,
        ),
        appends_idle t c.args.probe.shard (get_or c.seat.inside.counts c.args.probe.shard 0) held near i.1.all
            at i.0.2,
      ),
      appends_counts t c.args.probe.shard (get_or c.seat.inside.counts c.args.probe.shard 0) held near i.1.all
          at c.seat.inside.counts c.seat.told i.1 room,
    )

pub invariant_of-seat-2 : goal.invariant_of-seat-2
invariant_of-seat-2 g c = let v = c.seat.inside.seat.me.0 in let held : v.rows.held ≡ c.args.probe.shard =
    search rules in let near : c.args.probe.shard < 13 = omega (arith, c.requires.probe.0) in
    let i = c.seat.invariant in let t = c.append-within.ensures.view in
    let at : get_or c.seat.inside.counts c.args.probe.shard 0 ≡ length (row_of v.rows.seen c.args.probe.shard) =
    i.1.each c.args.probe.shard near in
    let informed : v.places ≡ c.args.self.now.places = search rules in
    let room : get_or c.seat.inside.counts c.args.probe.shard 0 < v.places =
    omega (arith, at, informed, rw (← c.seat.view_is) at c.requires.room) in (
      (
        c.append-within.ensures.seat.1 ∙ i.0.0,
        omega (
          arith,
          i.0.1,
          appends_places t c.args.probe.shard (get_or c.seat.inside.counts c.args.probe.shard 0) held near i.1.all at,
        ),
        appends_idle t c.args.probe.shard (get_or c.seat.inside.counts c.args.probe.shard 0) held near i.1.all
            at i.0.2,
      ),
      appends_counts t c.args.probe.shard (get_or c.seat.inside.counts c.args.probe.shard 0) held near i.1.all
          at c.seat.inside.counts c.seat.told i.1 room,
    )

pub returns-then-within : goal.returns-then-within
returns-then-within g c = let v = c.seat.inside.seat.me.0 in let held : v.rows.held ≡ c.args.probe.shard =
    search rules in let near : c.args.probe.shard < 13 = omega (arith, c.requires.probe.0) in
    let i = c.seat.invariant in let t = c.append-within.ensures.view in
    let at : get_or c.seat.inside.counts c.args.probe.shard 0 ≡ length (row_of v.rows.seen c.args.probe.shard) =
    i.1.each c.args.probe.shard near in
    let there = appends_there t c.args.probe.shard (get_or c.seat.inside.counts c.args.probe.shard 0) held near i.1.all
    at in
    record {
      added = (
        rw (← c.seat.view_is) (appends_knows t c.args.probe.shard (get_or c.seat.inside.counts c.args.probe.shard 0)
            held near i.1.all at c.seat.inside.seat.table_id c.append-within.new.seat.table_id v.count.over
            c.append-within.ensures.seat.0.0 (c.append-within.ensures.within c.if-within.true)),
        rw (← c.seat.view_is) (appends_sees t c.args.probe.shard (get_or c.seat.inside.counts c.args.probe.shard 0) held
            near i.1.all at),
        ((near, there.0), there.1, c.requires.probe.0),
      );
    }

pub returns : goal.returns
returns g c = let v = c.seat.inside.seat.me.0 in let held : v.rows.held ≡ c.args.probe.shard = search rules in
    let near : c.args.probe.shard < 13 = omega (arith, c.requires.probe.0) in let i = c.seat.invariant in
    let t = c.append-within.ensures.view in let at : get_or c.seat.inside.counts c.args.probe.shard 0
    ≡ length (row_of v.rows.seen c.args.probe.shard) = i.1.each c.args.probe.shard near in
    record {
      added = (
        rw c.stop.ensures (rw (← c.seat.view_is) (appends_over t c.args.probe.shard
            (get_or c.seat.inside.counts c.args.probe.shard 0) held near i.1.all at c.seat.inside.seat.table_id
            c.append-within.new.seat.table_id c.append-within.ensures.seat.0.0
            (c.append-within.ensures.past c.if-within.false))),
        rw c.stop.ensures (rw (← c.seat.view_is) (appends_sees t c.args.probe.shard
            (get_or c.seat.inside.counts c.args.probe.shard 0) held near i.1.all at)),
      );
    }
