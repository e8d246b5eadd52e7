-- A worker between two rounds, during an expansion and at the end.
use Rattle.std.specs.Prelude.{◌≡◌, ℕ, ◌<◌, ◌^◌, List, Result, IfOk, true, slice_index}
use Rattle.board_rule.specs.Lists.{Has}
use Rattle.seen_board.specs.Known.{Shown, Known}
use Rattle.seen_board.specs.Clauses.{IsOf, SeesOn, HasClaim}
use Rattle.seen_board.specs.Ended.{claims_made}
use Rattle.seen_board.specs.declared.answers.Place.{Place}
use Rattle.explorers.specs.RecentlySeen.{AreMet}
use Rattle.explorers.specs.declared.exploration.Round.{Round}
use Rattle.explorers.specs.declared.exploration.Round.TheVariants.{Over}
use Rattle.explorers.specs.declared.worker.WorkerOutput.{WorkerOutput}
use Rattle.explorers.specs.declared.worker.Worker.{Worker}

-- a seat of the board with no right and no claim
abbrev pub IsIdle : {S : Type 0} → Shown S → Known → Type 0
IsIdle b s = IsOf b s × (s.right ≡ 0) × (s.claims ≡ 0)

-- The space is that of the board. The worker's seat is of the board and has no right, its scratch is the space's own,
-- and its seat has seen the words that it has met.
pub record IsFree {S C A : Type 0} (b : Shown S) (s : S) (is_own : S → C → Type 0) (worker : Worker C A) : Type 0 where
  pub explored : b.space ≡ s
  pub of : IsOf b worker.seat
  pub free : worker.seat.right ≡ 0
  pub own : is_own s worker.scratch
  pub recent : AreMet worker.recent worker.seat.seen

-- the counter shows the number, unless it is too small for it
abbrev pub Counts : ℕ → ℕ → Type 0
Counts counter n = n < 2 ^ 64 → counter ≡ n

-- this holds between two rounds, when it has no claim and has expanded as many entries as it has claimed
pub record IsReady {S C A : Type 0} (b : Shown S) (s : S) (is_own : S → C → Type 0) (worker : Worker C A) : Type 0 where
  pub free : IsFree b s is_own worker
  pub unclaimed : worker.seat.claims ≡ 0
  pub counted : Counts worker.expanded (claims_made worker.seat)

-- the seat has made no claim, and its share of the board is as it was
pub record Keeps (before after : Known) : Type 0 where
  pub claims : claims_made after ≡ claims_made before
  pub share : after.share ≡ before.share

-- if the round ends as over, the worker's seat knows that more words are reached than the board may have
abbrev pub KnowsOver : {C A E : Type 0} → Result Round E → Worker C A → Type 0
KnowsOver round worker = IfOk round (λ t. t ≡ Over → worker.seat.over ≡ 1)

-- the word is an entry that the seat has seen, and the claim is as it was
pub record PutsIn (word : ℕ) (before after : Known) : Type 0 where
  pub board : after.board ≡ before.board
  pub limit : after.limit ≡ before.limit
  pub places : after.places ≡ before.places
  pub free : after.right ≡ 0
  pub claims : after.claims ≡ before.claims
  pub place : after.place ≡ before.place
  pub has : Has after.seen word

-- the seat is at the entry that it has claimed, and the first k successors are entries that it has seen
pub record Expands {S : Type 0} (b : Shown S) (before : List (List ℕ)) (place : Place) (next : List ℕ) (k : ℕ)
    (s : Known) : Type 0 where
  pub of : IsOf b s
  pub free : s.right ≡ 0
  pub claim : HasClaim s place
  pub sees : SeesOn before s.seen
  pub has : (j : ℕ) → j < k → Has s.seen (slice_index next j)

-- the seat is idle, and knows that more words are reached than the board may have if the board said so to its worker
abbrev pub IsOutput : {S : Type 0} → Shown S → WorkerOutput → Type 0
IsOutput b output = IsIdle b output.seat × (output.is_over ≡ true → output.seat.over ≡ 1)

-- as many entries were expanded as the seat has made claims
abbrev pub IsCounted : WorkerOutput → Type 0
IsCounted output = Counts output.expanded (claims_made output.seat)

-- a worker leaves this, with the share of the board that it began with
pub record IsOutputOf {S C A : Type 0} (b : Shown S) (worker : Worker C A) (output : WorkerOutput) : Type 0 where
  pub idle : IsOutput b output
  pub counted : IsCounted output
  pub share : output.seat.share ≡ worker.seat.share
