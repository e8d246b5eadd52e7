-- The rule of a board's table: one fact for each subject.
use Rattle.std.specs.Prelude.{◌≡◌, ℕ, ◌+◌, ◌*◌, ◌/◌, ◌%◌, ◌^◌, ◌<◌, ◌≤◌, ◌⊎◌, List, [], ◌∷◌, length, slice_index}
use Rattle.std.specs.Prelude.{if◌then◌else◌, ◌==◌, nat_lt, Contains}
use Rattle.std.specs.List.{All}
use Rattle.board_rule.specs.declared.shards.TheConstants.{SHARDS}
use mathlib.Core.Option.{some}
use lib.ListN.{get_elem?}
use Rattle.atomic_table.specs.Table.{State}
use Rattle.state_space.specs.Reach.{IsReached}
use Rattle.state_space.specs.Counts.{Outnumbers}
use Rattle.board_rule.specs.Layout.{writer, half, lock_word, length_word, low_word, high_word, life_word, index_word}
use Rattle.board_rule.specs.Layout.{size_for, place_of, slot, window}
use Rattle.board_rule.specs.Lists.{row_of, StartsWith, Has, total}
use Rattle.board_rule.specs.Lives.{life_of, life_at, is_claimed, is_unsettled, is_settled, Passes}
use Rattle.board_rule.specs.Views.{Fixed, OnRows, Share, portion}
use Rattle.board_rule.specs.declared.view.View.{View}

-- a fact of each seat
abbrev pub EachSeat : (View → Type 0) → List View → Type 0
EachSeat F views = (j : ℕ) (v : View) → get_elem? views j ≡ some v → F v

-- what a seat weighs in the lock of shard q
abbrev pub weight : ℕ → View → ℕ
weight q v = if v.rows.held == q then v.rows.right else 0

-- Locks: all rights of a shard weigh no more than its lock word, and the lock word no more than one writer.
abbrev pub LocksOk : List ℕ → List View → Type 0
LocksOk words views =
    (q : ℕ) → q < SHARDS → (total (weight q) views ≤ slice_index words (lock_word q))
    × (slice_index words (lock_word q) ≤ writer)

-- Rows: the words have them, with entries that are reached, each once, in the shard of its number.
pub record RowsOk (t : Fixed) (rows : List (List ℕ)) (words : List ℕ) : Type 0 where
  pub all : length rows ≡ SHARDS
  pub short : (q : ℕ) → q < SHARDS → length (row_of rows q) ≤ t.places
  pub stored : (q : ℕ) → q < SHARDS → slice_index words (length_word q) ≡ length (row_of rows q)
  pub lows : (q k : ℕ) → q < SHARDS → k < length (row_of rows q)
      → slice_index words (low_word q k) ≡ slice_index (row_of rows q) k % half
  pub highs : (q k : ℕ) → q < SHARDS → k < length (row_of rows q)
      → slice_index words (high_word t.places q k) ≡ slice_index (row_of rows q) k / half
  pub at_home : (q k : ℕ) → q < SHARDS → k < length (row_of rows q) → slice_index (row_of rows q) k % SHARDS ≡ q
  pub distinct : (q j k : ℕ) → q < SHARDS → j < length (row_of rows q) → k < length (row_of rows q)
      → slice_index (row_of rows q) j ≡ slice_index (row_of rows q) k → j ≡ k
  pub reached : (q k : ℕ) → q < SHARDS → k < length (row_of rows q)
      → IsReached t.next t.origin (slice_index (row_of rows q) k)

-- a half of a word lies after the row, and only a writer puts it there
abbrev pub Behind : ℕ → List ℕ → ℕ → List ℕ → List ℕ → ℕ → Type 0
Behind places row right words part address =
    (x : ℕ) → part ≡ x ∷ [] → (right ≡ writer) × (slice_index words address ≡ x) × (length row < places)

-- Seats: what one has seen is a beginning of each row, under a right the whole row and the index.
pub record SeatOk (places : ℕ) (rows : List (List ℕ)) (words : List ℕ) (r : OnRows) : Type 0 where
  pub all : length r.seen ≡ SHARDS
  pub saw : (q : ℕ) → q < SHARDS → StartsWith (row_of rows q) (row_of r.seen q)
  pub near : r.held < SHARDS
  pub whole : 0 < r.right → row_of r.seen r.held ≡ row_of rows r.held
  pub low : Behind places (row_of rows r.held) r.right words r.low (low_word r.held (length (row_of rows r.held)))
  pub high : Behind places (row_of rows r.held) r.right words r.high
      (high_word places r.held (length (row_of rows r.held)))
  pub marked : 0 < r.right → length r.marks ≡ places
  pub marks : 0 < r.right → (j : ℕ) → j < places
      → slice_index words (index_word places r.held j) ≡ slice_index r.marks j

-- how often the place p is among these
abbrev pub times_among : ℕ → List ℕ → ℕ
times_among p places = total (λ x. if x == p then 1 else 0) places

-- how often a seat has published the place p
abbrev pub times : ℕ → View → ℕ
times p v = times_among p v.rows.added

-- 1 for a place that is published, else 0
abbrev pub is_published : List (List ℕ) → ℕ → ℕ
is_published rows p = if nat_lt (p / SHARDS) (length (row_of rows (p % SHARDS))) then 1 else 0

-- the place of the start
abbrev pub start_place : ℕ → ℕ
start_place origin = place_of (origin % SHARDS) 0

-- Authors: each place that is published but the start's was published by one seat, once, and no other place was. So
-- there is one entry more than there are such places.
pub record AddedOk (origin : ℕ) (rows : List (List ℕ)) (views : List View) : Type 0 where
  pub once : (p : ℕ) → total (times p) views + (if p == start_place origin then 1 else 0) ≡ is_published rows p
  pub many : total length rows ≡ total (λ v. length v.rows.added) views + 1

-- what a seat has of the claim on the place p
abbrev pub claims_at : ℕ → View → ℕ
claims_at p v = if v.lives.place == p then v.lives.claims else 0

-- with the claims that it has given up
abbrev pub claims_on : ℕ → View → ℕ
claims_on p v = claims_at p v + times_among p v.lives.given_up

-- Lives: there is one for each entry, with one claim on each claimed entry, which a seat has or has given up, and none
-- on another. A settled life is the space's verdict, and the successors of its entry are entries. What was learned of a
-- life stays true.
pub record LivesOk (t : Fixed) (good : ℕ → Type 0) (rows lives : List (List ℕ)) (words : List ℕ)
    (views : List View) : Type 0 where
  pub all : length lives ≡ SHARDS
  pub even : (q : ℕ) → q < SHARDS → length (row_of lives q) ≡ length (row_of rows q)
  pub shown : (q k : ℕ) → q < SHARDS → k < length (row_of lives q)
      → slice_index words (life_word t.places q k) ≡ slice_index (row_of lives q) k
  pub fresh : (q k : ℕ) → q < SHARDS → length (row_of lives q) ≤ k → k < t.places
      → slice_index words (life_word t.places q k) ≡ 0
  pub claimed : (q k : ℕ) → q < SHARDS
      → total (claims_on (place_of q k)) views ≡ is_claimed (slice_index (row_of lives q) k)
  pub four : (q k : ℕ) → q < SHARDS → slice_index (row_of lives q) k ≤ 3
  pub clean : (q k : ℕ) → q < SHARDS → slice_index (row_of lives q) k ≡ 2 → good (slice_index (row_of rows q) k)
  pub broken : (q k : ℕ) → q < SHARDS → slice_index (row_of lives q) k ≡ 3 → good (slice_index (row_of rows q) k) → ⊥
  pub closed : (q k y : ℕ) → q < SHARDS → 2 ≤ slice_index (row_of lives q) k
      → Contains (t.next (slice_index (row_of rows q) k)) y → Has rows y
  pub learned : EachSeat (λ v. All (λ met. Passes met.1 (life_of (life_at lives met.0))) v.lives.learned) views

-- how many entries are not settled
abbrev pub open_lives : List (List ℕ) → ℕ
open_lives lives = total (total is_unsettled) lives

-- Pending: the entries that are not settled, the additions for words not published yet, and the subtractions owed. The
-- seats have settled the entries that are settled. Where a seat knows that it was 0, nothing is unsettled and nothing
-- is on its way.
pub record PendingOk (lives : List (List ℕ)) (words : List ℕ) (views : List View) : Type 0 where
  pub sum : slice_index words 0 ≡ open_lives lives + total (λ v. v.pending.announced) views
      + total (λ v. v.pending.owed) views
  pub few : total (λ v. v.pending.owed) views ≤ total (total is_settled) lives
  pub verdicts : total (λ v. v.pending.verdicts) views ≡ total (total is_settled) lives
  pub by_writers : EachSeat (λ v. v.pending.announced * writer ≤ v.rows.right) views
  pub done : EachSeat (λ v. v.pending.finished ≡ 1 → (open_lives lives ≡ 0)
      × (total (λ u. u.pending.announced) views ≡ 0)) views

-- P holds of more words than a limit, or of more words of one shard than a row has places
abbrev pub Overfills : (ℕ → Type 0) → ℕ → ℕ → Type 0
Overfills P limit places = Outnumbers P limit ⊎ (q : ℕ) × Outnumbers (λ word. P word × (word % SHARDS ≡ q)) places

-- Count: with what is to be counted yet it is the number of entries, and a seat that knows over is right.
pub record CountOk (t : Fixed) (rows : List (List ℕ)) (words : List ℕ) (views : List View) : Type 0 where
  pub count : slice_index words 1 + total (λ v. v.count.uncounted) views ≡ total length rows
  pub over : EachSeat (λ v. v.count.over ≡ 1 → Overfills (IsReached t.next t.origin) t.limit t.places) views

-- the place k of the word x comes before each zero among the word's index words
abbrev pub Stands : ℕ → (ℕ → ℕ) → ℕ → ℕ → Type 0
Stands places mark x k =
    (t : ℕ) → t < window places → mark (slot places x t) ≡ 0 → (u : ℕ) × (u < t) × (mark (slot places x u) ≡ k + 1)

-- a writer has published the place and not put it into the index yet
abbrev pub IsUnfiled : List View → ℕ → ℕ → Type 0
IsUnfiled views q k =
    (j : ℕ) × (v : View) × (get_elem? views j ≡ some v) × (v.rows.held ≡ q) × (v.rows.right ≡ writer)
    × (v.rows.unfiled ≡ k + 1)

-- Index: each word of it is 0 or 1 more than a published place, and each published place is in it but one whose
-- writer is still at it.
pub record IndexOk (places : ℕ) (rows : List (List ℕ)) (words : List ℕ) (views : List View) : Type 0 where
  pub named : (q j : ℕ) → q < SHARDS → j < places → slice_index words (index_word places q j) ≤ length (row_of rows q)
  pub stands : (q k : ℕ) → q < SHARDS → k < length (row_of rows q)
      → Stands places (λ j. slice_index words (index_word places q j)) (slice_index (row_of rows q) k) k
      ⊎ IsUnfiled views q k

-- what a seat with a right knows of the index: a zero among a word's index words shows that the row lacks the word,
-- where none before it names its place
abbrev pub IsComplete : ℕ → List ℕ → List ℕ → Type 0
IsComplete places row marks = (k : ℕ) → k < length row → Stands places (slice_index marks) (slice_index row k) k

-- nothing of it counts in a sum over the seats
pub record IsBare (v : View) : Type 0 where
  pub added : v.rows.added ≡ []
  pub claims : v.lives.claims ≡ 0
  pub given_up : v.lives.given_up ≡ []
  pub announced : v.pending.announced ≡ 0
  pub owed : v.pending.owed ≡ 0
  pub verdicts : v.pending.verdicts ≡ 0
  pub uncounted : v.count.uncounted ≡ 0

-- the share is all of the board
abbrev pub IsWhole : Share → Type 0
IsWhole s = s.parts ≡ 2 ^ s.cuts

-- Shares: they are the whole board. Each seat has some of it but those that were given up, of which nothing counts.
pub record SharesOk (views : List View) : Type 0 where
  pub from : ℕ
  pub cut : EachSeat (λ v. v.share.cuts ≤ from) views
  pub whole : (k : ℕ) → from ≤ k → total (λ v. portion v.share k) views ≡ 2 ^ k
  pub positive : EachSeat (λ v. 0 < v.places → 0 < v.share.parts) views
  pub bare : EachSeat (λ v. v.places ≡ 0 → IsBare v) views

pub record IsKept (t : Fixed) (good : ℕ → Type 0) {S : Type 0} (s : State S View) : Type 0 where
  pub rows : List (List ℕ)
  pub lives : List (List ℕ)
  pub wide : 0 < t.places
  pub sized : length s.words ≡ size_for t.places
  -- each seat but one that was given up knows how many places a row has
  pub informed : EachSeat (λ v. 0 < v.places → v.places ≡ t.places) s.views
  pub rooted : Has rows t.origin
  pub locks : LocksOk s.words s.views
  pub row : RowsOk t rows s.words
  pub seats : EachSeat (λ v. SeatOk t.places rows s.words v.rows) s.views
  pub added : AddedOk t.origin rows s.views
  pub life : LivesOk t good rows lives s.words s.views
  pub pending : PendingOk lives s.words s.views
  pub counts : CountOk t rows s.words s.views
  pub index : IndexOk t.places rows s.words s.views
  pub shares : SharesOk s.views
