use Rattle.state_space.proofs.Runs.{along}
use Rattle.seen_board.proofs.board.Board.at.Goals as goal

pub returns-clause-lawful : goal.returns-clause-lawful
returns-clause-lawful g c = along (g.S.Space.successors c.args.self.now.space) (g.S.Space.initial c.args.self.now.space)
    (g.S.Space.is_lawful c.args.self.now.space) (g.met.S.Space.initial_lawful c.args.self.now.space)
    (λ word lawful next succ. g.met.S.Space.successor_lawful c.args.self.now.space word next lawful succ) c.entry.result
    c.entry.ensures.reached
