-- What clauses say of seats and places.
use Rattle.std.specs.Prelude.{◌≡◌, ◌≢◌, ◌⊎◌, ℕ, ◌+◌, ◌<◌, Bool, if◌then◌else◌, List, [], ◌∷◌, ◌++◌, length, slice_index}
use Rattle.std.specs.Prelude.{replicate, ◌%◌, Contains}
use Rattle.board_rule.specs.declared.shards.TheConstants.{SHARDS}
use Rattle.board_rule.specs.Layout.{writer, place_of}
use Rattle.board_rule.specs.Changes.{either_one, both_shares}
use Rattle.board_rule.specs.declared.life.Life.{Life}
use Rattle.board_rule.specs.declared.life.Life.TheVariants.{Clean, Broken}
use Rattle.board_rule.specs.Lists.{row_of, StartsWith}
use Rattle.seen_board.specs.Known.{Shown, Known}
use Rattle.seen_board.specs.declared.answers.Place.{Place}

-- one number for a place
abbrev pub number : Place → ℕ
number place = place_of place.shard place.at

-- the seat is of this board
abbrev pub IsOf : {S : Type 0} → Shown S → Known → Type 0
IsOf b s = (s.board ≡ b.board) × (s.limit ≡ b.limit) × (s.places ≡ b.places)

-- and it has no right
abbrev pub IsAtRest : {S : Type 0} → Shown S → Known → Type 0
IsAtRest b s = IsOf b s × (s.right ≡ 0)

abbrev pub HasRight : Known → ℕ → Type 0
HasRight s q = (s.held ≡ q) × (0 < s.right)

abbrev pub Reads : Known → ℕ → Type 0
Reads s q = (s.held ≡ q) × (s.right ≡ 1)

abbrev pub Writes : Known → ℕ → Type 0
Writes s q = (s.held ≡ q) × (s.right ≡ writer)

abbrev pub HasClaim : Known → Place → Type 0
HasClaim s place = (s.claims ≡ 1) × (s.place ≡ number place)

-- the seat has the claim of the place, or has given it up
abbrev pub HasOrGaveUp : Known → Place → Type 0
HasOrGaveUp s place = HasClaim s place ⊎ Contains s.given_up (number place)

-- the seat's claim ends, where it has one, and the place is noted: its entry stays claimed
abbrev pub with_given_up : Known → Known
with_given_up s = record s { claims = 0; given_up = s.given_up ++ replicate s.claims s.place }

-- what was seen is a beginning of what is seen now
abbrev pub SeesOn : List (List ℕ) → List (List ℕ) → Type 0
SeesOn seen rows = (q : ℕ) → q < SHARDS → StartsWith (row_of rows q) (row_of seen q)

-- the seat has a right of shard q, may have seen more, and is as it was in all else
abbrev pub Gains : Known → ℕ → ℕ → Known → Type 0
Gains v right q w = (w ≡ record v { seen = w.seen; right = right; held = q }) × SeesOn v.seen w.seen

-- the seat may have seen more, and is as it was in all else
abbrev pub Sees : Known → Known → Type 0
Sees v w = (w ≡ record v { seen = w.seen }) × SeesOn v.seen w.seen

-- the row lacks the word
abbrev pub Lacks : List ℕ → ℕ → Type 0
Lacks row word = (k : ℕ) → k < length row → slice_index row k ≢ word

-- the seat learned that the place has had this life
abbrev pub with_met : Known → Place → Life → Known
with_met s place life = record s { learned = s.learned ++ (number place, life) ∷ [] }

abbrev pub verdict_life : Bool → Life
verdict_life good = if good then Clean else Broken

-- what two seats know together, with what they have seen
abbrev pub both_known : Known → Known → List (List ℕ) → Known
both_known s u seen =
    record s {
      seen = seen;
      given_up = s.given_up ++ u.given_up;
      learned = s.learned ++ u.learned;
      added = s.added ++ u.added;
      verdicts = s.verdicts + u.verdicts;
      share = both_shares s.share u.share;
      finished = either_one s.finished u.finished;
      over = either_one s.over u.over;
    }

-- the rows have the place
abbrev pub HasPlace : List (List ℕ) → Place → Type 0
HasPlace rows place = (place.shard < SHARDS) × (place.at < length (row_of rows place.shard))

abbrev pub word_at : List (List ℕ) → Place → ℕ
word_at rows place = slice_index (row_of rows place.shard) place.at

-- the word is at the place, in the shard of its number
abbrev pub Names : List (List ℕ) → Place → ℕ → Type 0
Names rows place word = HasPlace rows place × (word_at rows place ≡ word) × (place.shard ≡ word % SHARDS)
