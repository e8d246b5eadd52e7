use Rattle.std.proofs.Common.{rules, arith, ◌≡◌, ◌≤◌}
use Rattle.board_rule.specs.Plays.{Scans}
use Rattle.board_rule.proofs.IndexSteps.{scans}
use Rattle.seen_board.proofs.AfterScans.{scans_sees, scans_named, scans_ok}
use Rattle.seen_board.proofs.board.Board.scan.Goals as goal

pub load-mark-requires : goal.load-mark-requires
load-mark-requires g c = (
  search rules,
  search rules,
  scans _ _ _ _ _ _ _ c.args.shard c.args.slot (search rules)
      c.requires.range.0 (search rules) (search rules),
)

pub overflow_cast-mark : goal.overflow_cast-mark
overflow_cast-mark g c = let t : Scans c.seat.inside.seat.me.0 c.args.shard c.load-mark.result
    c.load-mark.new.seat.me.0 = c.load-mark.ensures.2.1 c.args.shard c.args.slot (search rules) c.requires.range.0
    (search rules) in let small : c.seat.inside.seat.me.0.places ≤ 32768 = search rules in
    omega (arith, t.within, small)

pub invariant_of-seat : goal.invariant_of-seat
invariant_of-seat g c = let t : Scans c.seat.inside.seat.me.0 c.args.shard c.load-mark.result
    c.load-mark.new.seat.me.0 = c.load-mark.ensures.2.1 c.args.shard c.args.slot (search rules) c.requires.range.0
    (search rules) in
    scans_ok c.seat.inside.counts c.max.result t c.load-mark.ensures.2.0 c.seat.told c.seat.invariant c.requires.range.0
    c.max.ensures

pub returns-clause-sees : goal.returns-clause-sees
returns-clause-sees g c = let t : Scans c.seat.inside.seat.me.0 c.args.shard c.load-mark.result
    c.load-mark.new.seat.me.0 = c.load-mark.ensures.2.1 c.args.shard c.args.slot (search rules) c.requires.range.0
    (search rules) in
    rw (← c.seat.view_is) (scans_sees t c.seat.inside.seat.table_id c.load-mark.new.seat.table_id (search rules)
    c.seat.invariant.1.all c.requires.range.0)

pub returns-clause-named : goal.returns-clause-named
returns-clause-named g c = let t : Scans c.seat.inside.seat.me.0 c.args.shard c.load-mark.result
    c.load-mark.new.seat.me.0 = c.load-mark.ensures.2.1 c.args.shard c.args.slot (search rules) c.requires.range.0
    (search rules) in
    scans_named t c.seat.invariant.1.all c.requires.range.0

pub returns-clause-within : goal.returns-clause-within
returns-clause-within g c = let t : Scans c.seat.inside.seat.me.0 c.args.shard c.load-mark.result
    c.load-mark.new.seat.me.0 = c.load-mark.ensures.2.1 c.args.shard c.args.slot (search rules) c.requires.range.0
    (search rules) in let informed : c.seat.inside.seat.me.0.places ≡ c.args.self.now.places = search rules in
    omega (arith, t.within, informed)
