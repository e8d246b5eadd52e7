use Rattle.std.proofs.Math.Nat.{lt_of_not-le}
use Rattle.state_space.proofs.Counting.{one_number, not_more}
use Rattle.state_space.proofs.laws.reach_has_one_size.Goals as goal

pub returns-clause-one : goal.returns-clause-one
returns-clause-one g c = one_number _

pub returns-clause-above : goal.returns-clause-above
returns-clause-above g c = λ n limit number more. lt_of_not-le (λ within. not_more _ n limit number within more)
