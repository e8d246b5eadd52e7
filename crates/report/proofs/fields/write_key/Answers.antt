use Rattle.report.proofs.Adding.{one_token}
use Rattle.report.proofs.fields.write_key.Goals as goal

pub returns : goal.returns
returns c = one_token c.key.result c.key.ensures
