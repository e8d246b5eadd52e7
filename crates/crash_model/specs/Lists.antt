-- Lists made number by number.
use Rattle.std.specs.Prelude.{ℕ, zero, suc, List, [], ◌∷◌, ◌++◌, Bool, if◌then◌else◌, Option, Some, None}
use Rattle.std.specs.Prelude.{option_to_list}
use Rattle.std.specs.Option.{option_or}

-- the lists for 0, 1, .. and n - 1, joined in this order
unfoldable pub each_below : {X : Type 0} → ℕ → (ℕ → List X) → List X
each_below zero list = []
each_below (suc n) list = each_below n list ++ list n

-- the element, if the test holds
abbrev pub when : {X : Type 0} → Bool → X → Option X
when test x = if test then Some x else None

-- the elements that there are for 0, 1, .. and n - 1, in this order
unfoldable pub some_below : {X : Type 0} → ℕ → (ℕ → Option X) → List X
some_below zero at = []
some_below (suc n) at = some_below n at ++ option_to_list (at n)

-- the lowest number below n at which the test holds
unfoldable pub first_below : ℕ → (ℕ → Bool) → Option ℕ
first_below zero test = None
first_below (suc n) test = option_or (first_below n test) (when (test n) n)

-- the pieces with the separator between each two
abbrev pub join_of : ℕ → List (List ℕ) → List ℕ
join_of separator [] = []
join_of separator (x ∷ []) = x
join_of separator (x ∷ y ∷ ys) = x ++ (separator ∷ join_of separator (y ∷ ys))
