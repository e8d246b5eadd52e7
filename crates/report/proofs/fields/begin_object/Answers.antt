use Rattle.report.proofs.Adding.{one_token}
use Rattle.report.proofs.fields.begin_object.Goals as goal

pub returns : goal.returns
returns c = one_token c.begin_object.result c.begin_object.ensures
