use Rattle.rule_laws.proofs.Whole.{traced_same}
use Rattle.rule_laws.proofs.laws.whole_blocks_change_no_patch.Goals as goal

pub returns : goal.returns
returns c = traced_same
