-- A byte that a list does not have.
use Rattle.std.proofs.Common.{ℕ, suc, zero, List, [], ◌∷◌, arith}
use Rattle.std.specs.List.{Contains}
use Rattle.crash_model.proofs.Cuts.{Lacks}

pub lacks_none : (s : ℕ) (xs : List ℕ) → Lacks s xs → ¬ (Contains xs s)
lacks_none s [] lacks (k, below, same) = absurd (omega arith)
lacks_none s (x ∷ xs) lacks (zero, below, same) = lacks.0 same
lacks_none s (x ∷ xs) lacks (suc k, below, same) = lacks_none s xs lacks.1 (k, omega arith, same)

pub none_lacks : (s : ℕ) (xs : List ℕ) → ¬ (Contains xs s) → Lacks s xs
none_lacks s [] none = tt
none_lacks s (x ∷ xs) none = (
  λ same. none (0, omega arith, same),
  none_lacks s xs (λ (k, below, same). none (suc k, omega arith, same)),
)
