use Rattle.std.proofs.Common.{ℕ, ◌<◌, ◌≤◌}
use Rattle.explorers.specs.Primes.{IsPrime}
use Rattle.explorers.proofs.primes.prime_at_least.Given as goal

abbrev pub invariant-loop-size : goal.invariant-loop-size
invariant-loop-size l = (n : ℕ) → l.from ≤ n → n < l.size → ¬ (IsPrime n)
