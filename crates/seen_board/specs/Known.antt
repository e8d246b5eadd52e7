-- What clauses see of a board and of a seat.
use Rattle.std.specs.Prelude.{◌≡◌, ℕ, ◌<◌, ◌≤◌, List, [], length, slice_index}
use Rattle.state_space.specs.declared.limits.TheConstants.{MAX_BOARD}
use Rattle.board_rule.specs.declared.shards.TheConstants.{SHARDS}
use Rattle.atomic_table.specs.Seated.{TableId}
use Rattle.atomic_table.specs.Table.{Me}
use Rattle.board_rule.specs.Lists.{row_of}
use Rattle.board_rule.specs.Plays.{IsIdle}
use Rattle.board_rule.specs.Changes.{first_view}
use Rattle.board_rule.specs.Views.{Share}
use Rattle.board_rule.specs.declared.life.Life.{Life}
use Rattle.board_rule.specs.declared.view.View.{View}

-- a board: which it is, how many words it may have and how many of one shard, and its space
pub record Shown (S : Type 0) : Type 0 where
  pub board : TableId
  pub limit : ℕ
  pub places : ℕ
  pub space : S

-- a seat: of which board it is, and what it knows
pub record Known : Type 0 where
  pub board : TableId
  pub limit : ℕ
  pub places : ℕ
  -- what it has seen of each shard's row
  pub seen : List (List ℕ)
  -- its right, 0 for none, 1 to read, 2 ^ 32 to write, and the shard of it
  pub right : ℕ
  pub held : ℕ
  -- 1 with a claim, and the place that was claimed last
  pub claims : ℕ
  pub place : ℕ
  -- the places whose claims it has given up: their entries stay claimed
  pub given_up : List ℕ
  -- lives that it met, each with its place
  pub learned : List (ℕ × Life)
  -- the places that it has put words in
  pub added : List ℕ
  -- how many entries it has settled
  pub verdicts : ℕ
  -- its share of the board: the first seat has the whole, a split halves it, and joining adds
  pub share : Share
  -- 1 once it knows that all entries are settled
  pub finished : ℕ
  -- 1 once it knows that more words are reached than the board may have
  pub over : ℕ

abbrev pub known_of : TableId → View → Known
known_of id v = record {
  board = id;
  limit = v.limit;
  places = v.places;
  seen = v.rows.seen;
  right = v.rows.right;
  held = v.rows.held;
  claims = v.lives.claims;
  place = v.lives.place;
  given_up = v.lives.given_up;
  learned = v.lives.learned;
  added = v.rows.added;
  verdicts = v.pending.verdicts;
  share = v.share;
  finished = v.pending.finished;
  over = v.count.over;
}

abbrev pub first_known : TableId → ℕ → ℕ → ℕ → Known
first_known id limit places start = known_of id (first_view limit places start)

-- between two calls a seat owes nothing
abbrev pub Rests : Me Unit View → Type 0
Rests m = (m.1 ≡ []) × (0 < m.0.places) × IsIdle m.0

-- how much of each row is seen
pub record Counts (places : ℕ) (counts : List ℕ) (seen : List (List ℕ)) : Type 0 where
  pub small : places ≤ MAX_BOARD
  pub all : length seen ≡ SHARDS
  pub each : (q : ℕ) → q < SHARDS → slice_index counts q ≡ length (row_of seen q)
  pub short : (q : ℕ) → q < SHARDS → length (row_of seen q) ≤ places
