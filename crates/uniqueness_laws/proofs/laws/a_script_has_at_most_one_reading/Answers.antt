use Rattle.uniqueness_laws.proofs.Scripts.{script_one, refusal_one, read_or_refused}
use Rattle.uniqueness_laws.proofs.laws.a_script_has_at_most_one_reading.Goals as goal

pub returns-clause-steps : goal.returns-clause-steps
returns-clause-steps c = script_one

pub returns-clause-refusal : goal.returns-clause-refusal
returns-clause-refusal c = refusal_one

pub returns-clause-either : goal.returns-clause-either
returns-clause-either c = read_or_refused
