-- The parts of what a seat knows.
use Rattle.std.specs.Prelude.{ℕ, ◌-◌, ◌*◌, ◌^◌, List}
use Rattle.board_rule.specs.declared.life.Life.{Life}

-- what is fixed when the table is made: how many entries the board may have and how many a row, the successors of a
-- word, and the initial word
pub record Fixed : Type 0 where
  pub limit : ℕ
  pub places : ℕ
  pub next : ℕ → List ℕ
  pub origin : ℕ

-- of locks, rows and index
pub record OnRows : Type 0 where
  -- what it has seen of each shard's row
  pub seen : List (List ℕ)
  -- the shard of its right; 0 for no right, 1 for the read right, the writer's value for the write right
  pub held : ℕ
  pub right : ℕ
  -- the halves of a word that it has stored after the row
  pub low : List ℕ
  pub high : List ℕ
  -- under a right, the shard's index words
  pub marks : List ℕ
  -- 1 more than the place that it has published and not put into the index yet, or 0
  pub unfiled : ℕ
  -- the places that it has published
  pub added : List ℕ

-- of lives
pub record OnLives : Type 0 where
  -- 1 with a claim, and the place that was claimed last
  pub claims : ℕ
  pub place : ℕ
  -- the places whose claims it has given up
  pub given_up : List ℕ
  -- lives that it met, each with its place
  pub learned : List (ℕ × Life)

-- of pending
pub record OnPending : Type 0 where
  -- additions to pending for words that are not published yet
  pub announced : ℕ
  -- subtractions that it owes for entries that it has settled
  pub owed : ℕ
  -- how many entries it has settled
  pub verdicts : ℕ
  -- 1 once it has read pending as 0
  pub finished : ℕ

-- of the count
pub record OnCount : Type 0 where
  -- entries that it has published and not counted yet
  pub uncounted : ℕ
  -- 1 once it knows that more words are reached than the board may have
  pub over : ℕ

-- a share of the board: how many of 2 ^ cuts equal parts it has
pub record Share : Type 0 where
  pub parts : ℕ
  pub cuts : ℕ

-- how many of 2 ^ k equal parts of the board a share has, for k from its cuts on
abbrev pub portion : Share → ℕ → ℕ
portion s k = s.parts * 2 ^ (k - s.cuts)
