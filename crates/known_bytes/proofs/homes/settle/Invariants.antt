use Rattle.known_bytes.proofs.Among.{IsAsked}
use Rattle.known_bytes.proofs.homes.settle.Given as goal

abbrev pub invariant-loop-block : goal.invariant-loop-block
invariant-loop-block l = IsAsked l.targets l.block-index 0 l.initial.others l.others
