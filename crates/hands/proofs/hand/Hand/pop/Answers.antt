use Rattle.hands.proofs.Moves.{takes, pops}
use Rattle.hands.proofs.hand.Hand.pop.Goals as goal

pub pop_as-requires-clause-fifo : goal.pop_as-requires-clause-fifo
pop_as-requires-clause-fifo g c = λ _. takes _ _ c.self.invariant

pub pop_as-requires-clause-lifo : goal.pop_as-requires-clause-lifo
pop_as-requires-clause-lifo g c = λ _. pops _ _ c.self.invariant
