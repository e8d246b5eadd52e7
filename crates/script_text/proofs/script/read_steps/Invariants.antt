use Rattle.std.proofs.Common.{length}
use Rattle.script_text.proofs.Steps.{HaveRead}
use Rattle.script_text.proofs.script.read_steps.Given as goal

abbrev pub invariant-loop-rest : goal.invariant-loop-rest
invariant-loop-rest g l = HaveRead l.bytes l.first l.steps.items l.line l.rest

abbrev pub decreases-loop-rest : goal.decreases-loop-rest
decreases-loop-rest g l = length l.rest
