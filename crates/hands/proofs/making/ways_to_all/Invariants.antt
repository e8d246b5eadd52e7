use Rattle.std.proofs.Common.{◌≡◌, ◌++◌, map, take, drop}
use Rattle.hands.specs.Steps.{with_one_less, new_way}
use Rattle.hands.proofs.making.ways_to_all.Given as goal

-- the hands before `at` have given a way
abbrev pub invariant-loop-at : goal.invariant-loop-at
invariant-loop-at g l = record {
  ways : l.ways.items ≡ map new_way (take l.at l.fn.hands.items);
  given : l.hands.items ≡ map with_one_less (take l.at l.fn.hands.items) ++ drop l.at l.fn.hands.items;
}
