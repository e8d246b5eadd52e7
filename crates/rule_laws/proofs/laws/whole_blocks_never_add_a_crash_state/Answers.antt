use Rattle.rule_laws.proofs.Whole.{closed_whole, failing_whole, failing_under_whole}
use Rattle.rule_laws.proofs.laws.whole_blocks_never_add_a_crash_state.Goals as goal

pub returns-clause-closed : goal.returns-clause-closed
returns-clause-closed c = closed_whole

pub returns-clause-failing : goal.returns-clause-failing
returns-clause-failing c = failing_whole

pub returns-clause-strict : goal.returns-clause-strict
returns-clause-strict c = λ demands rules base s few more set graph wider. failing_under_whole rules base s few more set
    graph wider demands
