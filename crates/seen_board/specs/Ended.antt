-- What a closed board holds.
use Rattle.std.specs.Prelude.{◌≡◌, ◌⊎◌, ℕ, ◌+◌, ◌/◌, ◌%◌, ◌<◌, ◌≤◌, List, length, slice_index, if◌then◌else◌, ◌==◌}
use Rattle.std.specs.Prelude.{Contains}
use Rattle.std.specs.List.{concat}
use Rattle.state_space.specs.declared.limits.TheConstants.{MAX_BOARD}
use Rattle.board_rule.specs.declared.shards.TheConstants.{SHARDS}
use Rattle.state_space.specs.Reach.{IsReached}
use Rattle.state_space.specs.Counts.{IsSome, IsListOf}
use Rattle.board_rule.specs.Layout.{size_for, length_word, place_of}
use Rattle.board_rule.specs.Lists.{row_of, Has, total}
use Rattle.board_rule.specs.Lives.{life_of, is_claimed, is_settled}
use Rattle.board_rule.specs.Rule.{times_among, is_published, start_place}
use Rattle.board_rule.specs.Readings.{rows_of, lives_of}
use Rattle.board_rule.specs.declared.life.Life.{Life}
use Rattle.board_rule.specs.declared.life.Life.TheVariants.{Waiting, Clean, Broken}
use Rattle.seen_board.specs.Known.{Known}

-- the rows, the lives of the entries of each, pending and the count
pub record Ended : Type 0 where
  pub rows : List (List ℕ)
  pub lives : List (List ℕ)
  pub pending : ℕ
  pub count : ℕ

abbrev pub end_of : ℕ → List ℕ → Ended
end_of places words =
    record {
      rows = rows_of places words;
      lives = lives_of places words;
      pending = slice_index words 0;
      count = slice_index words 1;
    }

-- the life of the entry at place k of shard q
abbrev pub life_of_entry : Ended → ℕ → ℕ → Life
life_of_entry e q k = life_of (slice_index (row_of e.lives q) k)

-- the life of the place with this one number
abbrev pub life_in : Ended → ℕ → Life
life_in e p = life_of_entry e (p % SHARDS) (p / SHARDS)

pub record IsReadable (places : ℕ) (words : List ℕ) : Type 0 where
  pub sized : length words ≡ size_for places
  pub small : places ≤ MAX_BOARD
  pub short : (q : ℕ) → q < SHARDS → slice_index words (length_word q) ≤ places

-- the entries are the initial word and other words that are reached, none of them twice in all shards, and each in the
-- shard of its number
pub record Entries (next : ℕ → List ℕ) (origin places : ℕ) (rows : List (List ℕ)) : Type 0 where
  pub thirteen : length rows ≡ SHARDS
  pub start : Has rows origin
  pub some : IsSome (IsReached next origin) (concat rows)
  pub at_home : (q k : ℕ) → q < SHARDS → k < length (row_of rows q) → slice_index (row_of rows q) k % SHARDS ≡ q
  pub reached : (q k : ℕ) → q < SHARDS → k < length (row_of rows q)
      → IsReached next origin (slice_index (row_of rows q) k)
  pub distinct : (p q j k : ℕ) → p < SHARDS → q < SHARDS → j < length (row_of rows p) → k < length (row_of rows q)
      → slice_index (row_of rows p) j ≡ slice_index (row_of rows q) k → (p ≡ q) × (j ≡ k)
  pub short : (q : ℕ) → q < SHARDS → length (row_of rows q) ≤ places

abbrev pub IsSettled : Life → Type 0
IsSettled life = (life ≡ Clean) ⊎ (life ≡ Broken)

-- a settled life is the space's verdict, and the successors of its entry are entries
pub record AreSettled (next : ℕ → List ℕ) (good : ℕ → Type 0) (e : Ended) : Type 0 where
  pub clean : (q k : ℕ) → q < SHARDS → life_of_entry e q k ≡ Clean → good (slice_index (row_of e.rows q) k)
  pub broken : (q k : ℕ) → q < SHARDS → life_of_entry e q k ≡ Broken → good (slice_index (row_of e.rows q) k) → ⊥
  pub closed : (q k y : ℕ) → q < SHARDS → IsSettled (life_of_entry e q k)
      → Contains (next (slice_index (row_of e.rows q) k)) y → Has e.rows y

-- every entry is settled, and the entries are the words that are reached
pub record IsDone (next : ℕ → List ℕ) (origin : ℕ) (e : Ended) : Type 0 where
  pub settled : (q k : ℕ) → q < SHARDS → k < length (row_of e.rows q) → IsSettled (life_of_entry e q k)
  pub every : (x : ℕ) → IsReached next origin x → Has e.rows x
  pub list : IsListOf (IsReached next origin) (concat e.rows)

-- how many claims the seat has made: of the entries that it has settled, those that it has given up, and the one that
-- it has
abbrev pub claims_made : Known → ℕ
claims_made s = s.verdicts + length s.given_up + s.claims

-- what one seat with the whole board knows is all that happened
pub record Accounts (origin : ℕ) (s : Known) (e : Ended) : Type 0 where
  -- the places of its answers New and the start's are, each once, the places of the entries
  pub places : (p : ℕ) → times_among p s.added + (if p == start_place origin then 1 else 0) ≡ is_published e.rows p
  pub entries : total length e.rows ≡ length s.added + 1
  pub count : e.count ≡ length s.added + 1
  -- an entry is claimed exactly if its claim is held or given up, and by one call
  pub claimed : (q k : ℕ) → q < SHARDS → (if s.place == place_of q k then s.claims else 0)
      + times_among (place_of q k) s.given_up ≡ is_claimed (slice_index (row_of e.lives q) k)
  -- as many are settled as it has settled, and pending is the number of the others
  pub settled : total (total is_settled) e.lives ≡ s.verdicts
  pub pending : e.pending + s.verdicts ≡ length s.added + 1
  -- there are no more claims than entries, since none is claimed twice, and as many once all entries are settled
  pub claims : claims_made s ≤ length s.added + 1
  pub each : s.finished ≡ 1 → claims_made s ≡ length s.added + 1

-- the start waits, and pending and the count are 1
pub record IsOpening (start : ℕ) (e : Ended) : Type 0 where
  pub waiting : life_of_entry e (start % SHARDS) 0 ≡ Waiting
  pub pending : e.pending ≡ 1
  pub count : e.count ≡ 1
