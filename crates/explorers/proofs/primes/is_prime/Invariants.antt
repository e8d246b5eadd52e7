use Rattle.std.proofs.Common.{◌≢◌, ℕ, ◌-◌, ◌<◌, ◌%◌}
use Rattle.explorers.proofs.primes.is_prime.Given as goal

abbrev pub invariant-loop-divisor : goal.invariant-loop-divisor
invariant-loop-divisor l = (1 < l.divisor) × ((d : ℕ) → 1 < d → d < l.divisor → l.n % d ≢ 0)

abbrev pub decreases-loop-divisor : goal.decreases-loop-divisor
decreases-loop-divisor l = l.n - l.divisor
