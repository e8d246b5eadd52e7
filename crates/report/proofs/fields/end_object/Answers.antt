use Rattle.report.proofs.Adding.{one_token}
use Rattle.report.proofs.fields.end_object.Goals as goal

pub returns : goal.returns
returns c = one_token c.end_object.result c.end_object.ensures
