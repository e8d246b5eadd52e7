use Rattle.promise_laws.proofs.Lines.{at_risk_alone}
use Rattle.promise_laws.proofs.laws.only_promises_at_risk_are_broken.Goals as goal

pub returns : goal.returns
returns c = at_risk_alone
