use Rattle.promise_laws.proofs.Lines.{line_kept}
use Rattle.promise_laws.proofs.laws.sure_lines_are_kept.Goals as goal

pub returns : goal.returns
returns c = line_kept
