use Rattle.std.proofs.Common.{◌≡◌, length}
use Rattle.known_bytes.specs.Headers.{AreAdded}
use Rattle.known_bytes.proofs.homes.add_homes.Given as goal

abbrev pub invariant-loop-m : goal.invariant-loop-m
invariant-loop-m l = record {
  long : length l.others ≡ 128;
  added : AreAdded l.initial.others l.others l.first l.targets l.m;
}
