-- How many words of a list lack a property.
use Rattle.std.specs.Prelude.{◌≡◌, ℕ, ◌+◌, List, [], ◌∷◌, ◌⊎◌}

-- as many words of the list lack the property, and the others have it
abbrev pub IsCountOfOthers : (ℕ → Type 0) → List ℕ → ℕ → Type 0
IsCountOfOthers P [] n = n ≡ 0
IsCountOfOthers P (x ∷ xs) n =
    (P x × IsCountOfOthers P xs n) ⊎ ((¬ (P x)) × (m : ℕ) × (n ≡ m + 1) × IsCountOfOthers P xs m)
