use Rattle.std.proofs.Common.{◌≡◌, ◌≤◌, ℕ, List, take, drop, sym, ap, ◌∙◌, refl}
use Rattle.std.proofs.lemmas.List.{take-take}
use Rattle.crash_model.specs.Replay.{count_of, targets_of}
use Rattle.journal_replay.proofs.Targets.{header_few}
use Rattle.journal_replay.proofs.header.header_at.Goals as goal

-- the targets are the first of the eight bytes after the count
first_are_targets : (row : List ℕ) (count : ℕ) (numbers : List ℕ) → count_of row ≤ 8 → count ≡ count_of row
    → numbers ≡ take 8 (drop 3 row) → take count numbers ≡ targets_of row
first_are_targets row count numbers few counted eight = ap (λ (n : ℕ). take n numbers) counted
    ∙ (ap (take (count_of row)) eight ∙ take-take (count_of row) 8 (drop 3 row) few)

pub returns : goal.returns
returns g c =
    let row = c.block-row.result.now in
    let is = sym c.is_header.ensures ∙ c.if-not-is_header.false in
    record {
      is = rw (← c.block-row.ensures.bytes) is;
      held = rw (← c.block-row.ensures.bytes) refl;
      targets = rw (← c.block-row.ensures.bytes)
          (first_are_targets row c.from.result c.copy_from_slice.new.self
          (header_few c.args.image.now c.args.at c.args.transaction row is) c.from.ensures
          c.copy_from_slice.ensures.after);
    }
