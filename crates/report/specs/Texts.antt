-- What lines are made of.
use Rattle.std.specs.Prelude.{ℕ, List, [], ◌∷◌, ◌++◌, Bool, if◌then◌else◌, codes, decimal}
use Rattle.std.specs.List.{flat_map}
use Rattle.patch_sets.specs.Sets.{ids_of}
use Rattle.patch_sets.specs.Iter.{most_ids}

abbrev pub line : List ℕ → List ℕ
line text = text ++ codes "\n"

-- a line, if something holds
unfoldable pub line_if : Bool → List ℕ → List ℕ
line_if holds text = if holds then line text else []

-- the word and a number
unfoldable pub count_line : List ℕ → ℕ → List ℕ
count_line word n = line (word ++ codes " " ++ decimal n)

-- each after a space
abbrev pub spaced : {X : Type 0} → (X → List ℕ) → List X → List ℕ
spaced text xs = flat_map (λ x. codes " " ++ text x) xs

abbrev pub ids_text : ℕ → List ℕ
ids_text set = spaced decimal (ids_of most_ids set)

-- the texts with something between each two
abbrev pub joined : List ℕ → List (List ℕ) → List ℕ
joined between [] = []
joined between (x ∷ []) = x
joined between (x ∷ y ∷ ys) = x ++ between ++ joined between (y ∷ ys)

-- a line for each: the name and a space before it
unfoldable pub lines_of : {X : Type 0} → List ℕ → (X → List ℕ) → List X → List ℕ
lines_of name word xs = flat_map (λ x. line (name ++ codes " " ++ word x)) xs
