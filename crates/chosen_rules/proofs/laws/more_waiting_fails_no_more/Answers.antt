use Rattle.chosen_rules.proofs.Prevented.{closed_fewer, fault_fewer, failing_fewer}
use Rattle.chosen_rules.proofs.laws.more_waiting_fails_no_more.Goals as goal

pub returns-clause-closed : goal.returns-clause-closed
returns-clause-closed c = closed_fewer

pub returns-clause-faults : goal.returns-clause-faults
returns-clause-faults c = λ demands rules base s few more less waited fault set within graph wider.
    fault_fewer rules base s few more less waited set within graph wider demands fault

pub returns-clause-failing : goal.returns-clause-failing
returns-clause-failing c = λ demands rules base s few more less waited set within graph wider.
    failing_fewer rules base s few more less waited set within graph wider demands
