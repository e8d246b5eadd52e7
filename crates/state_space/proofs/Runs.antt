-- What holds of all that is reached.
use Rattle.std.proofs.Common.{ℕ, zero, suc, List, refl, sym, subst}
use Rattle.std.specs.List.{Contains}
use Rattle.state_space.specs.Reach.{IsRun, IsReached}

-- the start is reached
pub reached_start : (next : ℕ → List ℕ) (start : ℕ) → IsReached next start start
reached_start next start = record { steps = zero; run = refl }

-- a successor of a word that is reached is reached
pub reached_next : (next : ℕ → List ℕ) (start before word : ℕ) → IsReached next start before
    → Contains (next before) word → IsReached next start word
reached_next next start before word reached succ = record {
  steps = suc reached.steps;
  run = (before, reached.run, succ);
}

-- what holds of the start, and of the successors of each word that it holds of, holds of each word that is reached
module _ (next : ℕ → List ℕ) (start : ℕ) (P : ℕ → Type 0) (at_start : P start)
    (goes_on : (word : ℕ) → P word → (after : ℕ) → Contains (next word) after → P after) where
  along_run : (n word : ℕ) → IsRun next start n word → P word
  along_run zero word run = subst P (sym run) at_start
  along_run (suc n) word (before, run, after) = goes_on before (along_run n before run) word after

  pub along : (word : ℕ) → IsReached next start word → P word
  along word reached = along_run reached.steps word reached.run
