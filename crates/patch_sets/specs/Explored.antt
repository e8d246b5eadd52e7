-- What exploring a space of words must find. The space is given by the successors of each word, its initial word and
-- which words are good.
use Rattle.std.specs.Prelude.{ℕ, ◌≤◌, List}
use Rattle.state_space.specs.Reach.{IsReached}
use Rattle.state_space.specs.Counts.{HoldsOf, Outnumbers}
use Rattle.patch_sets.specs.Sets.{AreAllInOrder}
use Rattle.patch_sets.specs.declared.explored.Explored.{Explored}

-- the number of words that are reached, at most the limit, and those of them that are not good, in canonical order
pub record IsExplored {A : Type 0} (next : ℕ → List ℕ) (start : ℕ) (good : ℕ → Type 0) (limit : ℕ)
    (found : Explored A) : Type 0 where
  pub total : HoldsOf (IsReached next start) found.total
  pub within : found.total ≤ limit
  pub broken : AreAllInOrder (λ word. IsReached next start word × ¬ (good word)) found.broken.items

-- more words than the limit are reached
abbrev pub ReachExceeds : (ℕ → List ℕ) → ℕ → ℕ → Type 0
ReachExceeds next start limit = Outnumbers (IsReached next start) limit
