use Rattle.known_bytes.proofs.Among.{IsAsked}
use Rattle.known_bytes.proofs.homes.ask.Given as goal

abbrev pub invariant-loop-block : goal.invariant-loop-block
invariant-loop-block l = IsAsked l.blocks l.block-index l.id l.initial.asks l.asks
