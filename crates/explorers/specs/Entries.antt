-- The entries of a closed board, shard by shard.
use Rattle.std.specs.Prelude.{◌≡◌, ℕ, ◌+◌, ◌*◌, ◌<◌, ◌≤◌, List, length, slice_index}
use Rattle.state_space.specs.declared.limits.TheConstants.{MAX_BOARD}
use Rattle.board_rule.specs.declared.shards.TheConstants.{SHARDS}
use Rattle.board_rule.specs.Lists.{row_of}
use Rattle.board_rule.specs.declared.life.Life.TheVariants.{Broken}
use Rattle.seen_board.specs.Ended.{Ended, life_of_entry}

-- the word is that of a broken entry before place k of shard q
pub record IsBrokenBefore (e : Ended) (q k word : ℕ) : Type 0 where
  pub shard : ℕ
  pub at : ℕ
  pub near : shard < SHARDS
  pub inside : at < length (row_of e.rows shard)
  pub before : shard * 65536 + at < q * 65536 + k
  pub is : slice_index (row_of e.rows shard) at ≡ word
  pub life : life_of_entry e shard at ≡ Broken

-- no word is at two places
abbrev pub AreDistinct : List (List ℕ) → Type 0
AreDistinct rows =
    (p q j k : ℕ) → p < SHARDS → q < SHARDS → j < length (row_of rows p) → k < length (row_of rows q)
    → slice_index (row_of rows p) j ≡ slice_index (row_of rows q) k → (p ≡ q) × (j ≡ k)

abbrev pub AreShort : List (List ℕ) → Type 0
AreShort rows = (q : ℕ) → q < SHARDS → length (row_of rows q) ≤ MAX_BOARD
