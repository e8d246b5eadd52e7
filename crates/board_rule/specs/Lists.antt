-- Rows of words, and sums over lists.
use Rattle.std.specs.Prelude.{◌≡◌, ℕ, zero, suc, ◌+◌, ◌%◌, ◌<◌, Bool, true, false, List, [], ◌∷◌, ◌++◌, length}
use Rattle.std.specs.Prelude.{slice_index, slice_index_or, if◌then◌else◌, ◌==◌, nat_lt}
use Rattle.board_rule.specs.declared.shards.TheConstants.{SHARDS}

-- the row of shard q
abbrev pub row_of : List (List ℕ) → ℕ → List ℕ
row_of rows q = slice_index_or rows q []

-- the second list is a beginning of the first
abbrev pub StartsWith : List ℕ → List ℕ → Type 0
StartsWith row seen = (rest : List ℕ) × (row ≡ seen ++ rest)

-- the word is an entry: it is in the row of its shard
abbrev pub Has : List (List ℕ) → ℕ → Type 0
Has rows y = (j : ℕ) × (j < length (row_of rows (y % SHARDS))) × (slice_index (row_of rows (y % SHARDS)) j ≡ y)

abbrev pub total : {A : Type 0} → (A → ℕ) → List A → ℕ
total f [] = 0
total f (x ∷ xs) = f x + total f xs

-- f 0, f 1 and so on, n of them
abbrev pub first_values : {A : Type 0} → (ℕ → A) → ℕ → List A
first_values f zero = []
first_values f (suc n) = f 0 ∷ first_values (λ k. f (suc k)) n

-- the first list is a beginning of the second
abbrev pub is_start : List ℕ → List ℕ → Bool
is_start [] bs = true
is_start (a ∷ xs) [] = false
is_start (a ∷ xs) (b ∷ bs) = if a == b then is_start xs bs else false

-- the longer list
abbrev pub longer_row : List ℕ → List ℕ → List ℕ
longer_row a b = if nat_lt (length a) (length b) then b else a

abbrev pub longer_rows : List (List ℕ) → List (List ℕ) → List (List ℕ)
longer_rows [] bs = []
longer_rows (a ∷ xs) [] = a ∷ xs
longer_rows (a ∷ xs) (b ∷ bs) = longer_row a b ∷ longer_rows xs bs

-- of the two rows of each shard one is a beginning of the other
abbrev pub agree : List (List ℕ) → List (List ℕ) → Bool
agree [] bs = true
agree (a ∷ xs) [] = true
agree (a ∷ xs) (b ∷ bs) =
    if (if nat_lt (length a) (length b) then is_start a b else is_start b a) then agree xs bs else false
