-- What the index words of a word say under a right.
use Rattle.std.specs.Prelude.{◌≡◌, ℕ, ◌<◌, List, length, slice_index}
use Rattle.seen_board.specs.Clauses.{Lacks}
use Rattle.seen_board.specs.declared.answers.Indexed.{Indexed}
use Rattle.seen_board.specs.declared.answers.Indexed.TheVariants.{At, Absent, Full}

abbrev pub FoundOk : List ℕ → ℕ → Indexed → Type 0
FoundOk row word (At k) = (k < length row) × (slice_index row k ≡ word)
FoundOk row word Absent = Lacks row word
FoundOk row word Full = Unit {0}
