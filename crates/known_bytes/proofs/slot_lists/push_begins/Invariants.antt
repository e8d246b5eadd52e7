use Rattle.std.proofs.Common.{take}
use Rattle.std.specs.List.{All, Contains}
use Rattle.crash_model.specs.declared.showing.ShownSlot.{ShownSlot}
use Rattle.crash_model.specs.declared.showing.ShownSlot.TheVariants.{Begins}
use Rattle.known_bytes.proofs.slot_lists.push_begins.Given as goal

abbrev pub invariant-loop-word : goal.invariant-loop-word
invariant-loop-word l = record {
  kept : (shown : ShownSlot) → Contains l.initial.shows.items shown → Contains l.shows.items shown;
  pushed : All (λ word. Contains l.shows.items (Begins word)) (take l.word-index l.words);
}
