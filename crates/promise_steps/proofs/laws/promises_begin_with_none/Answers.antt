use Rattle.promise_steps.proofs.Whole.{begins}
use Rattle.promise_steps.proofs.laws.promises_begin_with_none.Goals as goal

pub returns : goal.returns
returns c kind is_durable whole base steps = begins kind is_durable whole base steps
