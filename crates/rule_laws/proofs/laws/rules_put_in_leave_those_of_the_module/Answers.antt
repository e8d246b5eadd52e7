use Rattle.crash_model.proofs.PutIn.{put_in_among, none_put_in}
use Rattle.rule_laws.proofs.laws.rules_put_in_leave_those_of_the_module.Goals as goal

pub returns-clause-among : goal.returns-clause-among
returns-clause-among c = put_in_among

pub returns-clause-own : goal.returns-clause-own
returns-clause-own c = none_put_in
