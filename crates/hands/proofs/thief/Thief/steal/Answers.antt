use Rattle.hands.proofs.Moves.{takes}
use Rattle.hands.proofs.thief.Thief.steal.Goals as goal

pub steal_as-requires-clause-takes : goal.steal_as-requires-clause-takes
steal_as-requires-clause-takes g c = takes _ _ c.self.invariant.1
