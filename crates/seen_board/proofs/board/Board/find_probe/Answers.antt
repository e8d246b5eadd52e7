use Rattle.std.proofs.Common.{rules}
use Rattle.seen_board.proofs.Chains.{sees_trans, sees_same}
use Rattle.seen_board.proofs.board.Board.find_probe.Goals as goal

pub returns-then-mark-eq0-clause-sees : goal.returns-then-mark-eq0-clause-sees
returns-then-mark-eq0-clause-sees g c = sees_trans c.args.seat.now c.loop-t.seat c.scan-mark.new.seat c.loop-t.invariant
    c.scan-mark.ensures.sees

pub returns-then-entry-probe-clause-sees : goal.returns-then-entry-probe-clause-sees
returns-then-entry-probe-clause-sees g c = sees_same c.args.seat.now c.scan-mark.new.seat
    _ (sees_trans c.args.seat.now c.loop-t.seat c.scan-mark.new.seat c.loop-t.invariant c.scan-mark.ensures.sees)
    (search rules)

pub loop-t-preserved : goal.loop-t-preserved
loop-t-preserved g c = sees_same c.args.seat.now c.scan-mark.new.seat
    _ (sees_trans c.args.seat.now c.loop-t.seat c.scan-mark.new.seat c.loop-t.invariant c.scan-mark.ensures.sees)
    (search rules)
