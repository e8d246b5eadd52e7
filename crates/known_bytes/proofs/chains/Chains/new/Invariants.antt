use Rattle.known_bytes.proofs.Marked.{IsMarked}
use Rattle.known_bytes.proofs.chains.Chains.new.Given as goal

abbrev pub invariant-loop-id : goal.invariant-loop-id
invariant-loop-id g l = IsMarked l.graph l.base.blocks l.id l.sets.items
