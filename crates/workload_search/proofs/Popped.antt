-- A list without its last element.
use Rattle.std.proofs.Common.{◌≡◌, ℕ, ◌<◌, List, [], ◌∷◌, ◌++◌, length, get_or, arith, sym, subst}
use Rattle.std.proofs.lemmas.List.{length_push, get_or_push, get_or_append_left}

module _ {X : Type 0} (P : ℕ → X → Type 0) (all front : List X) (last : X)
    (each : (n : ℕ) (d : X) → n < length all → P n (get_or all n d)) (whole : all ≡ front ++ last ∷ []) where
  each_of : (n : ℕ) (d : X) → n < length (front ++ last ∷ []) → P n (get_or (front ++ last ∷ []) n d)
  each_of = subst (λ (xs : List X). (n : ℕ) (d : X) → n < length xs → P n (get_or xs n d)) whole each

  -- what holds of each holds of those before the last
  pub before_last : (n : ℕ) (d : X) → n < length front → P n (get_or front n d)
  before_last n d within = subst (P n) (get_or_append_left front (last ∷ []) d n within)
      (each_of n d (omega (arith, within, length_push front last)))

  -- and of the last
  pub of_last : (n : ℕ) → n ≡ length front → P n last
  of_last n number = subst (P n) (get_or_push front last last n (sym number))
      (each_of n last (omega (arith, number, length_push front last)))
