use Rattle.std.proofs.Common.{◌≡◌, ◌≤◌, length}
use Rattle.std.specs.Prelude.{None}
use Rattle.std.specs.List.{All}
use Rattle.thread_jobs.proofs.parts.Drawing.empty_places.Given as goal

abbrev pub invariant-loop : goal.invariant-loop
invariant-loop g l = record {
  within : l.counter ≤ l.self.parts;
  count : length l.places.items ≡ l.counter;
  empty : All (λ place. place ≡ None) l.places.items;
}
