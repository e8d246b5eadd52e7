use Rattle.rule_laws.proofs.Closed.{closed_more, failing_more, failing_under_more}
use Rattle.rule_laws.proofs.laws.more_rules_never_add_a_crash_state.Goals as goal

pub returns-clause-closed : goal.returns-clause-closed
returns-clause-closed c = closed_more

pub returns-clause-failing : goal.returns-clause-failing
returns-clause-failing c = failing_more

pub returns-clause-strict : goal.returns-clause-strict
returns-clause-strict c =
    λ demands some all base s few more set among graph wider. failing_under_more some all base s few
    more set among graph wider demands
