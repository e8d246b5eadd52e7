use Rattle.std.proofs.Common.{rules, ◌≢◌, ℕ, ◌<◌, ◌/◌, ◌%◌, arith}
use Rattle.explorers.proofs.Divisors.{no_divisor}
use Rattle.explorers.proofs.primes.is_prime.Goals as goal

pub returns : goal.returns
returns c =
    let n = c.args.n in
    let root = c.loop-divisor.divisor in
    let high : n / root < root = omega (arith, c.loop-divisor-test.false) in
    let undivided : (d : ℕ) → 1 < d → d < n → n % d ≢ 0 = no_divisor n root high c.loop-divisor.invariant.1 in
    search rules
