-- What each kind of step says: of the step, the seat before, the number found (at a store the number stored) and the
-- seat after. The shard or the place of a step is known by its address. A play reads no key of the table, so the load
-- of an entry is given the words that are reached.
use Rattle.std.specs.Prelude.{◌≡◌, ◌≢◌, ℕ, ◌+◌, ◌/◌, ◌%◌, ◌<◌, ◌≤◌, List, [], ◌∷◌, length, slice_index, slice_set, max}
use Rattle.std.specs.Prelude.{Contains}
use Rattle.board_rule.specs.declared.shards.TheConstants.{SHARDS}
use Rattle.atomic_table.specs.Table.{Me, Step}
use Rattle.board_rule.specs.Layout.{writer, half, lock_word, length_word, low_word, high_word, life_word, index_word}
use Rattle.board_rule.specs.Layout.{place_of}
use Rattle.board_rule.specs.Lists.{row_of, StartsWith}
use Rattle.board_rule.specs.Lives.{life_of}
use Rattle.board_rule.specs.Rule.{IsComplete}
use Rattle.board_rule.specs.Changes.{with_seen, with_right, without_right, with_entry, with_learned, with_claim}
use Rattle.board_rule.specs.Changes.{without_claim, with_given_up}
use Rattle.board_rule.specs.declared.life.Life.TheVariants.{Claimed}
use Rattle.board_rule.specs.declared.view.View.{View}

-- it owes nothing to the index, to pending or to the count
pub record IsIdle (v : View) : Type 0 where
  pub low : v.rows.low ≡ []
  pub high : v.rows.high ≡ []
  pub unfiled : v.rows.unfiled ≡ 0
  pub announced : v.pending.announced ≡ 0
  pub owed : v.pending.owed ≡ 0
  pub uncounted : v.count.uncounted ≡ 0

-- a right of shard q, whose whole row is seen
pub record Takes (v : View) (right q : ℕ) (w : View) : Type 0 where
  pub row : List ℕ
  pub marks : List ℕ
  pub is : w ≡ with_right v q row marks right
  pub more : StartsWith row (row_of v.rows.seen q)
  pub short : length row ≤ v.places

-- an index word of shard q named a place, or none at 0: the places up to it are seen
pub record Scans (v : View) (q named : ℕ) (w : View) : Type 0 where
  pub row : List ℕ
  pub is : w ≡ with_seen v (slice_set v.rows.seen q row)
  pub more : StartsWith row (row_of v.rows.seen q)
  pub long : length row ≡ max (length (row_of v.rows.seen q)) named
  pub within : named ≤ v.places

module _ {S : Type 0} where
  abbrev pub Peeks : Step S → Me S View → ℕ → Me S View → Type 0
  Peeks st m r n = n ≡ m

  -- a step that no seat takes
  abbrev pub never : Step S → Me S View → ℕ → Me S View → Type 0
  never st m r n = ⊥

  -- the seat is at one of the 13 shards
  abbrev pub IsAtShard : Step S → Me S View → ℕ → Me S View → Type 0
  IsAtShard st m r n = (n ≡ m) × (m.0.rows.held < SHARDS)

  abbrev pub TakesRight : ℕ → Step S → Me S View → ℕ → Me S View → Type 0
  TakesRight right st m r n = (n.1 ≡ m.1) × (r ≡ st.first → (q : ℕ) → st.word ≡ lock_word q → Takes m.0 right q n.0)
      × (r ≢ st.first → n.0 ≡ m.0)

  abbrev pub Enters : Step S → Me S View → ℕ → Me S View → Type 0
  Enters = TakesRight 1

  abbrev pub Seizes : Step S → Me S View → ℕ → Me S View → Type 0
  Seizes = TakesRight writer

  abbrev pub Leaves : Step S → Me S View → ℕ → Me S View → Type 0
  Leaves st m r n = n ≡ (without_right m.0, m.1)

  abbrev pub Measures : Step S → Me S View → ℕ → Me S View → Type 0
  Measures st m r n = (n ≡ m)
      × ((q : ℕ) → st.word ≡ length_word q → m.0.rows.held ≡ q → (r ≡ length (row_of m.0.rows.seen q))
      × (r ≤ m.0.places))

  abbrev pub ReadsLow : (ℕ → Type 0) → Step S → Me S View → ℕ → Me S View → Type 0
  ReadsLow reached st m r n = (n ≡ m)
      × ((q k : ℕ) → st.word ≡ low_word q k → q < SHARDS → k < length (row_of m.0.rows.seen q)
      → (r ≡ slice_index (row_of m.0.rows.seen q) k % half) × reached (slice_index (row_of m.0.rows.seen q) k))

  abbrev pub ReadsHigh : Step S → Me S View → ℕ → Me S View → Type 0
  ReadsHigh st m r n = (n ≡ m)
      × ((q k : ℕ) → st.word ≡ high_word m.0.places q k → q < SHARDS → k < length (row_of m.0.rows.seen q)
      → r ≡ slice_index (row_of m.0.rows.seen q) k / half)

  abbrev pub LaysLow : Step S → Me S View → ℕ → Me S View → Type 0
  LaysLow st m r n = n ≡ (record m.0 { rows = record m.0.rows { low = r ∷ [] } }, m.1)

  abbrev pub LaysHigh : Step S → Me S View → ℕ → Me S View → Type 0
  LaysHigh st m r n = n ≡ (record m.0 { rows = record m.0.rows { high = r ∷ [] } }, m.1)

  abbrev pub Publishes : Step S → Me S View → ℕ → Me S View → Type 0
  Publishes st m r n = (x : ℕ) → m.0.rows.low ≡ x % half ∷ [] → m.0.rows.high ≡ x / half ∷ []
      → n ≡ (with_entry m.0 x, m.1)

  -- under a right, with and without a debt to the index
  abbrev pub ReadsMark : Step S → Me S View → ℕ → Me S View → Type 0
  ReadsMark st m r n = (n ≡ m)
      × ((j : ℕ) → st.word ≡ index_word m.0.places m.0.rows.held j → j < m.0.places → (r ≡ slice_index m.0.rows.marks j)
      × (r ≤ length (row_of m.0.rows.seen m.0.rows.held)))
      × (m.0.rows.unfiled ≡ 0 → IsComplete m.0.places (row_of m.0.rows.seen m.0.rows.held) m.0.rows.marks)

  -- with no right
  abbrev pub ScansIndex : Step S → Me S View → ℕ → Me S View → Type 0
  ScansIndex st m r n = (n.1 ≡ m.1)
      × ((q j : ℕ) → st.word ≡ index_word m.0.places q j → q < SHARDS → j < m.0.places → Scans m.0 q r n.0)

  abbrev pub Files : Step S → Me S View → ℕ → Me S View → Type 0
  Files st m r n = (marks : List ℕ) × (n ≡ (record m.0 { rows = record m.0.rows { marks = marks; unfiled = 0 } }, m.1))

  abbrev pub Claims : Step S → Me S View → ℕ → Me S View → Type 0
  Claims st m r n = (n.1 ≡ m.1)
      × ((q k : ℕ) → st.word ≡ life_word m.0.places q k → q < SHARDS
      → (r ≡ 0 → (n.0 ≡ with_claim m.0 (place_of q k) Claimed) × (Contains m.0.lives.given_up (place_of q k) → ⊥))
      × (r ≢ 0 → n.0 ≡ with_learned m.0 (place_of q k) Claimed))

  abbrev pub Settles : Step S → Me S View → ℕ → Me S View → Type 0
  Settles st m r n =
      let pending = record m.0.pending { owed = m.0.pending.owed + 1; verdicts = m.0.pending.verdicts + 1 } in
      n ≡ (record (with_learned (without_claim m.0) m.0.lives.place (life_of r)) { pending = pending }, m.1)

  abbrev pub Announces : Step S → Me S View → ℕ → Me S View → Type 0
  Announces st m r n = n ≡ (record m.0 { pending = record m.0.pending { announced = 1 } }, m.1)

  abbrev pub Repays : Step S → Me S View → ℕ → Me S View → Type 0
  Repays st m r n = n ≡ (record m.0 { pending = record m.0.pending { owed = 0 } }, m.1)

  abbrev pub Ends : Step S → Me S View → ℕ → Me S View → Type 0
  Ends st m r n = (n.1 ≡ m.1) × (r ≡ 0 → n.0 ≡ record m.0 { pending = record m.0.pending { finished = 1 } })
      × (r ≢ 0 → n.0 ≡ m.0)

  abbrev pub CountsEntry : Step S → Me S View → ℕ → Me S View → Type 0
  CountsEntry st m r n = (n.1 ≡ m.1) × (r < m.0.limit → n.0 ≡ record m.0 { count = record m.0.count { uncounted = 0 } })
      × (m.0.limit ≤ r → n.0 ≡ record m.0 { count = record m.0.count { uncounted = 0; over = 1 } })

  abbrev pub Stops : Step S → Me S View → ℕ → Me S View → Type 0
  Stops st m r n = n ≡ (with_given_up m.0, m.1)

  -- the stop of a seat that has found a full row
  abbrev pub Overflows : Step S → Me S View → ℕ → Me S View → Type 0
  Overflows st m r n = n ≡ (record (with_given_up m.0) { count = record m.0.count { over = 1 } }, m.1)
