use Rattle.std.proofs.Common.{rules, arith, ◌≤◌}
use Rattle.board_rule.proofs.LockSteps.{measures}
use Rattle.seen_board.proofs.board.Board.measure.Goals as goal

pub load-requires : goal.load-requires
load-requires g c = (search rules, search rules, measures _ _ _ _ _ _ _ (search rules) (search rules))

pub overflow_cast-result : goal.overflow_cast-result
overflow_cast-result g c = let h = c.load.ensures.2.1 c.args.shard c.length.ensures c.requires.right.1 in
    let b : c.args.seat.now.me.0.places ≤ 32768 = search rules in omega (arith, h.1)

pub returns-clause-within : goal.returns-clause-within
returns-clause-within g c = let h = c.load.ensures.2.1 c.args.shard c.length.ensures c.requires.right.1 in
    omega (arith, h.1, c.requires.seat.2)
