use Rattle.report.specs.HeadJson.{module_field}
use Rattle.report.proofs.Adding.{ends}
use Rattle.report.proofs.head.write_module_field.Goals as goal

pub returns : goal.returns
unfolding module_field
returns c = ends c.write_text.result c.write_text.ensures (λ last. rw c.name-name.ensures at last)
