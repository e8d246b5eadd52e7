use Rattle.std.proofs.Common.{◌≡◌, true, false, arith, sym, subst, ◌∙◌, inl, inr}
use Rattle.patch_sets.proofs.Bits.{eq_or_not}
use Rattle.explorers.specs.Primes.{IsPrime}
use Rattle.explorers.proofs.primes.prime_at_least.Goals as goal

pub loop-size-preserved : goal.loop-size-preserved
loop-size-preserved c = λ n from below. elim (eq_or_not n c.loop-size.size) [
  | inl same ↦ λ prime. let no : false ≡ true = sym c.if-is_prime.false
      ∙ c.is_prime.ensures.1 (subst IsPrime same prime) in cc
  | inr other ↦ c.loop-size.invariant n from (omega (arith, below, other))
]

pub returns-clause-least : goal.returns-clause-least
returns-clause-least c = λ n from below. c.loop-size.invariant n from (omega (arith, below, c.loop-size-test.false))
