use Rattle.promise_laws.proofs.Lines.{none_at_risk}
use Rattle.promise_laws.proofs.laws.nothing_fails_where_no_promise_is_at_risk.Goals as goal

pub returns : goal.returns
returns c = none_at_risk
