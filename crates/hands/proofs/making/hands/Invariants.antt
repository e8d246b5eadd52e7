use Rattle.hands.proofs.NewHands.{Made}
use Rattle.hands.proofs.making.hands.Given as goal

abbrev pub invariant-loop-worker : goal.invariant-loop-worker
invariant-loop-worker g l = Made l.fn.workers l.worker l.hands.items
