-- Elements of tables counted place by place: row 0 from column 0 on, then row 1, and so on.
use Rattle.std.specs.Prelude.{◌≡◌, ℕ, ◌+◌, ◌<◌, List, length, slice_index, Option}
use Rattle.crash_model.specs.Lists.{each_below, some_below}

-- the elements of one row of a table
abbrev pub row_of : {X : Type 0} → ℕ → (ℕ → ℕ → Option X) → ℕ → List X
row_of width at row = some_below width (at row)

-- how many elements of a table come before a place
unfoldable pub count_before : {X : Type 0} → ℕ → (ℕ → ℕ → Option X) → ℕ → ℕ → ℕ
count_before width at row column = length (each_below row (row_of width at)) + length (some_below column (at row))

-- the counts of several tables, one for each key, before a place
abbrev pub IsTally : {X : Type 0} → ℕ → (ℕ → ℕ → ℕ → Option X) → ℕ → ℕ → List ℕ → Type 0
IsTally width at row column counts =
    (key : ℕ) → key < length counts → slice_index counts key ≡ count_before width (at key) row column
