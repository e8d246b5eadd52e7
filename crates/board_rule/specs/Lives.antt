-- The life of an entry, as a word: 0 waiting, 1 claimed, 2 clean, 3 broken.
use Rattle.std.specs.Prelude.{◌≡◌, ◌≢◌, ℕ, ◌/◌, ◌%◌, Bool, List, slice_index, if◌then◌else◌, ◌==◌, nat_lt}
use Rattle.board_rule.specs.declared.shards.TheConstants.{SHARDS}
use Rattle.board_rule.specs.Lists.{row_of}
use Rattle.board_rule.specs.declared.life.Life.{Life}
use Rattle.board_rule.specs.declared.life.Life.TheVariants.{Waiting, Claimed, Clean, Broken}

abbrev pub life_of : ℕ → Life
life_of n = if n == 0 then Waiting else if n == 1 then Claimed else if n == 2 then Clean else Broken

abbrev pub verdict_of : Bool → ℕ
verdict_of good = if good then 2 else 3

-- 1 for a claimed life, else 0
abbrev pub is_claimed : ℕ → ℕ
is_claimed n = if n == 1 then 1 else 0

-- 1 for a life that is waiting or claimed, else 0
abbrev pub is_unsettled : ℕ → ℕ
is_unsettled n = if nat_lt n 2 then 1 else 0

abbrev pub is_settled : ℕ → ℕ
is_settled n = if nat_lt n 2 then 0 else 1

-- an entry with the first life can come to have the second: no life becomes waiting again, and no settled one changes
abbrev pub Passes : Life → Life → Type 0
Passes Waiting b = Unit {0}
Passes Claimed b = b ≢ Waiting
Passes Clean b = b ≡ Clean
Passes Broken b = b ≡ Broken

-- the life of a place, given by its one number
abbrev pub life_at : List (List ℕ) → ℕ → ℕ
life_at lives p = slice_index (row_of lives (p % SHARDS)) (p / SHARDS)
