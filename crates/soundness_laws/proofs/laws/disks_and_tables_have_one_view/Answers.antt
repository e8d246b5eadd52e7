use Rattle.soundness_laws.proofs.Views.{same-view}
use Rattle.soundness_laws.proofs.laws.disks_and_tables_have_one_view.Goals as goal

pub returns : goal.returns
returns c = same-view
