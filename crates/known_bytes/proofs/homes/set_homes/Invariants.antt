use Rattle.std.proofs.Common.{◌≡◌, ◌≤◌, length}
use Rattle.known_bytes.proofs.Setting.{IsSetting}
use Rattle.known_bytes.proofs.homes.set_homes.Given as goal

abbrev pub invariant-loop-m : goal.invariant-loop-m
invariant-loop-m l = record {
  inside : l.m ≤ length l.targets;
  long : length l.homes ≡ 128;
  setting : IsSetting l.initial.homes l.homes l.first l.m l.targets;
}

abbrev pub decreases-loop-m : goal.decreases-loop-m
decreases-loop-m l = l.m
