use Rattle.hands.proofs.Moves.{pushes}
use Rattle.hands.proofs.hand.Hand.push.Goals as goal

pub push_as-requires-clause-pushes : goal.push_as-requires-clause-pushes
push_as-requires-clause-pushes g c = pushes _ _ _ c.self.invariant
