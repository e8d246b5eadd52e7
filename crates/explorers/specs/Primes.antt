-- Prime numbers.
use Rattle.std.specs.Prelude.{◌≢◌, ℕ, ◌<◌, ◌%◌}

-- a number above 1 that no number between 1 and itself divides
pub record IsPrime (n : ℕ) : Type 0 where
  pub above : 1 < n
  pub undivided : (divisor : ℕ) → 1 < divisor → divisor < n → n % divisor ≢ 0
