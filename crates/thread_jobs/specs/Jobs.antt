-- What the workers of a job leave.
use Rattle.std.specs.Prelude.{◌≡◌, ℕ, ◌<◌, List, length, slice_index_or}

-- it is what the worker at the place may leave
pub record IsOutputAt {W L : Type 0} (is_output : W → L → Type 0) (workers : List W) (n : ℕ) (output : L) : Type 0 where
  pub worker : W
  pub is : (d : W) → slice_index_or workers n d ≡ worker
  pub made : is_output worker output

-- each is what the worker at its place may leave
abbrev pub AreOutputsOf : {W L : Type 0} → (W → L → Type 0) → List W → List L → Type 0
AreOutputsOf {L = L} is_output workers outputs =
    (n : ℕ) (d : L) → n < length outputs → IsOutputAt is_output workers n (slice_index_or outputs n d)
