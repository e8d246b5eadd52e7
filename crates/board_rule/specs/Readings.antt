-- The rows and the lives as the words have them.
use Rattle.std.specs.Prelude.{ℕ, ◌+◌, ◌*◌, List, slice_index}
use Rattle.board_rule.specs.declared.shards.TheConstants.{SHARDS}
use Rattle.board_rule.specs.Layout.{half, length_word, low_word, high_word, life_word}
use Rattle.board_rule.specs.Lists.{first_values}

abbrev pub entry_of : ℕ → List ℕ → ℕ → ℕ → ℕ
entry_of places words q k = slice_index words (low_word q k) + slice_index words (high_word places q k) * half

abbrev pub rows_of : ℕ → List ℕ → List (List ℕ)
rows_of places words =
    first_values (λ q. first_values (entry_of places words q) (slice_index words (length_word q))) SHARDS

abbrev pub lives_of : ℕ → List ℕ → List (List ℕ)
lives_of places words =
    first_values (λ q.
    first_values (λ k. slice_index words (life_word places q k)) (slice_index words (length_word q))) SHARDS
