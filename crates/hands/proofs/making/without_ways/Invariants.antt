use Rattle.std.proofs.Common.{◌≡◌, length, All}
use Rattle.hands.specs.Steps.{IsBare}
use Rattle.hands.proofs.making.without_ways.Given as goal

abbrev pub invariant-loop : goal.invariant-loop
invariant-loop g l = record { count : length l.hands.items ≡ l.counter; bare : All IsBare l.hands.items }
