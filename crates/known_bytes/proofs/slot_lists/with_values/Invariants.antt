use Rattle.std.proofs.Common.{◌<◌, ℕ, take}
use Rattle.std.specs.Prelude.{slice_set}
use Rattle.std.specs.List.{All, Contains}
use Rattle.known_bytes.specs.Family.{HasValue}
use Rattle.known_bytes.proofs.slot_lists.with_values.Given as goal

abbrev pub invariant-loop-word : goal.invariant-loop-word
invariant-loop-word l = All (λ word. (value : ℕ) → value < 256 → HasValue l.values.low l.values.high value
    → Contains l.longer.items (slice_set word l.at value)) (take l.word-index l.words)
