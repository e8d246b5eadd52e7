use Rattle.std.proofs.Common.{ℕ, List}
use Rattle.std.specs.Prelude.{slice_set}
use Rattle.std.specs.List.{Contains}
use Rattle.known_bytes.proofs.EachValue.{AreTaken}
use Rattle.known_bytes.proofs.slot_lists.push_values.Given as goal

abbrev pub invariant-loop-value : goal.invariant-loop-value
invariant-loop-value l = record {
  kept : (other : List ℕ) → Contains l.initial.longer.items other → Contains l.longer.items other;
  taken : AreTaken l.values.low l.values.high l.value (λ value. Contains l.longer.items (slice_set l.word l.at value));
}
