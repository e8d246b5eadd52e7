use Rattle.std.proofs.Common.{sym, ◌∙◌}
use Rattle.fault_deciding.proofs.Promised.{answered, not_counted}
use Rattle.fault_deciding.proofs.question.FaultQuestionSetProperty.ask.Goals as goal

pub returns-then-not-counts : goal.returns-then-not-counts
returns-then-not-counts g c =
    let self = c.args.self.now in
    not_counted self.chains.now c.args.family c.args._sets.now.deps.now c.requires.about c.requires.family
    self.demands.now self.fault (sym c.counts.ensures ∙ c.if-not-counts.true)

pub returns : goal.returns
returns g c =
    let self = c.args.self.now in
    answered self.chains.now c.args.family c.args._sets.now.deps.now c.requires.about c.requires.family self.demands.now
    self.fault c.is_there.result (sym c.counts.ensures ∙ c.if-not-counts.false) c.is_there.ensures
