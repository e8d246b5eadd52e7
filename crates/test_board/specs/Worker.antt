use Rattle.std.specs.Prelude.{◌≡◌, ℕ}
use Rattle.seen_board.specs.Known.{Shown, Known}
use Rattle.seen_board.specs.Clauses.{IsOf, HasClaim, HasPlace, word_at}
use Rattle.seen_board.specs.declared.answers.Place.{Place}

-- a seat of the board with no right and no claim
abbrev pub IsIdle : {S : Type 0} → Shown S → Known → Type 0
IsIdle b s = IsOf b s × (s.right ≡ 0) × (s.claims ≡ 0)

-- a seat of the board with the claim of this word at this place, and with no right
abbrev pub IsAt : {S : Type 0} → Shown S → Place → ℕ → Known → Type 0
IsAt b place word s =
    IsOf b s × (s.right ≡ 0) × HasClaim s place × HasPlace s.seen place × (word_at s.seen place ≡ word)
