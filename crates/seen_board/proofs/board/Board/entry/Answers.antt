use Rattle.std.proofs.Common.{rules, get_or, subst, sym, ◌≡◌, ◌+◌, ◌*◌}
use Rattle.board_rule.specs.Lists.{row_of}
use Rattle.state_space.specs.Reach.{IsReached}
use Rattle.board_rule.proofs.RowSteps.{glances_high}
use Rattle.seen_board.proofs.board.Board.entry.Goals as goal

pub load-high-requires : goal.load-high-requires
load-high-requires g c = (search rules, search rules, glances_high _ _ _ _ _ _ _ (search rules))

pub returns-clause-reached : goal.returns-clause-reached
returns-clause-reached g c = let x = get_or (row_of c.args.seat.now.me.0.rows.seen c.args.shard) c.args.at 0 in
    let same : c.low_half-low.result + c.load-high.result * 18446744073709551616 ≡ x = search rules in
    subst (IsReached (g.S.Space.successors c.args.self.now.space) (g.S.Space.initial c.args.self.now.space)) (sym same)
    c.low_half-low.ensures.fact
