-- Words of a line, found by a test.
use Rattle.std.specs.Prelude.{ℕ, List, length, Bool, ◌&&◌, nat_lt, nat_le}
use Rattle.std.specs.List.{list_all}

-- 1 to 10 bytes that pass
abbrev pub is_word : (ℕ → Bool) → List ℕ → Bool
is_word passes word = nat_lt 0 (length word) && (nat_le (length word) 10 && list_all passes word)
