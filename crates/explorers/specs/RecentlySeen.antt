-- The words that a worker has met on the board.
use Rattle.std.specs.Prelude.{ℕ, List}
use Rattle.std.specs.List.{Contains}
use Rattle.board_rule.specs.Lists.{Has}

-- each of the words is an entry that the seat has seen
pub record AreMet (words : List ℕ) (seen : List (List ℕ)) : Type 0 where
  pub has : (word : ℕ) → Contains words word → Has seen word
