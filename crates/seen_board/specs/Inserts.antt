-- What putting a word in leaves.
use Rattle.std.specs.Prelude.{◌≡◌, ◌≢◌, ℕ, ◌+◌, ◌/◌, ◌%◌, ◌<◌, List, [], ◌∷◌, ◌++◌, length, slice_index}
use Rattle.std.specs.List.{Contains}
use Rattle.board_rule.specs.declared.shards.TheConstants.{SHARDS}
use Rattle.board_rule.specs.Layout.{slot, window}
use Rattle.board_rule.specs.Lists.{row_of}
use Rattle.board_rule.specs.Changes.{with_entry}
use Rattle.board_rule.specs.declared.view.View.{View}
use Rattle.seen_board.specs.Known.{Known}
use Rattle.seen_board.specs.Clauses.{SeesOn, Names, Lacks, number, with_given_up}
use Rattle.seen_board.specs.declared.answers.Put.{Put}
use Rattle.seen_board.specs.declared.answers.Put.TheVariants.{New, Known as Found, Busy, Over}
use Rattle.seen_board.specs.declared.answers.Looked.{Looked}
use Rattle.seen_board.specs.declared.answers.Looked.TheVariants.{Taken, At, Absent}

-- the word at the place with this one number
abbrev pub word_of_place : List (List ℕ) → ℕ → ℕ
word_of_place seen p = slice_index (row_of seen (p % SHARDS)) (p / SHARDS)

-- the word is a successor of one that the seat has seen, at the place p
abbrev pub Follows : (ℕ → List ℕ) → List (List ℕ) → ℕ → ℕ → Type 0
Follows next seen p word =
    (p / SHARDS < length (row_of seen (p % SHARDS))) × Contains (next (word_of_place seen p)) word

-- the word is a successor of the word that the seat has claimed
abbrev pub IsSuccessor : (ℕ → List ℕ) → Known → ℕ → Type 0
IsSuccessor next s word = (s.claims ≡ 1) × Follows next s.seen s.place word

-- the same of a seat of the table
abbrev pub IsNext : (ℕ → List ℕ) → View → ℕ → Type 0
IsNext next v word = (v.lives.claims ≡ 1) × Follows next v.rows.seen v.lives.place word

-- the seat may have seen more and has no right, and is as it was in all else
abbrev pub Returns : Known → Known → Type 0
Returns v w = (w ≡ record v { seen = w.seen; held = w.held; right = 0 }) × SeesOn v.seen w.seen

-- what a try to put a word in leaves
abbrev pub PutOk : ℕ → Known → Known → Put → Type 0
PutOk word v w (New place) =
    (w ≡ record v { seen = w.seen; held = w.held; right = 0; added = v.added ++ number place ∷ [] })
    × SeesOn v.seen w.seen × Names w.seen place word × Lacks (row_of v.seen (word % SHARDS)) word
PutOk word v w (Found place) = Returns v w × Names w.seen place word
PutOk word v w Busy = Returns v w
PutOk word v w Over =
    (w ≡ record (with_given_up v) { seen = w.seen; held = w.held; right = 0; added = w.added; over = 1 })
    × SeesOn v.seen w.seen

-- what a word that is put in under the write right leaves
abbrev pub AddOk : ℕ → Known → Known → Put → Type 0
AddOk word v w (New place) =
    (w ≡ record v { seen = w.seen; right = 0; added = v.added ++ number place ∷ [] }) × SeesOn v.seen w.seen
    × Names w.seen place word
AddOk word v w (Found place) = ⊥
AddOk word v w Busy = ⊥
AddOk word v w Over =
    (w ≡ record (with_given_up v) { seen = w.seen; right = 0; added = w.added; over = 1 }) × SeesOn v.seen w.seen

-- what a look under the read right says of the row
abbrev pub LookedOk : List ℕ → ℕ → Looked → Type 0
LookedOk row word Taken = Unit {0}
LookedOk row word (At k) = (k < length row) × (slice_index row k ≡ word)
LookedOk row word Absent = Lacks row word

-- the place is in the index, or none of its word's index words is zero
abbrev pub HasPaid : View → Type 0
HasPaid v =
    (k t : ℕ) → v.rows.unfiled ≡ k + 1 → t < window v.places
    → slice_index v.rows.marks (slot v.places (slice_index (row_of v.rows.seen v.rows.held) k) t) ≢ 0

-- only what it knows of the index is different
abbrev pub Filed : View → View → Type 0
Filed v w = w ≡ record v { rows = record v.rows { marks = w.rows.marks; unfiled = w.rows.unfiled } }

-- the word was published, the right given up and the entry counted
pub record Appends (v : View) (word : ℕ) (w : View) : Type 0 where
  pub marks : List ℕ
  pub over : ℕ
  pub is : w ≡ (let u = with_entry v word in record u {
    rows = record u.rows { right = 0; unfiled = 0; marks = marks };
    count = record u.count { uncounted = 0; over = over };
  })
