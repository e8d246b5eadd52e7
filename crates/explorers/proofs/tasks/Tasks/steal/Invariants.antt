use Rattle.std.specs.Prelude.{◌≡◌}
use Rattle.explorers.proofs.tasks.Tasks.steal.Given as goal

-- nothing was taken so far
abbrev pub invariant-loop-step : goal.invariant-loop-step
invariant-loop-step g l = record {
  hand : l.self-inside.hand ≡ l.initial.self-inside.hand;
  own : l.self-inside.own ≡ l.initial.self-inside.own;
  workers : l.self-inside.workers ≡ l.initial.self-inside.workers;
}
