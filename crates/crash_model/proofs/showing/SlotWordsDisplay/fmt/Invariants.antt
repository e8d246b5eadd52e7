use Rattle.std.proofs.Common.{◌∷◌, take}
use Rattle.std.specs.List.{flat_map}
use Rattle.std.specs.Fmt.{HasWritten, IsPlainFormatter}
use Rattle.crash_model.specs.ShownTexts.{slot_text}
use Rattle.crash_model.specs.declared.showing.ShownSlot.{ShownSlot}
use Rattle.crash_model.proofs.showing.SlotWordsDisplay.fmt.Given as goal

abbrev pub invariant-loop-slot : goal.invariant-loop-slot
invariant-loop-slot g l =
    IsPlainFormatter l.initial.f
    → HasWritten g.W.Write.write_str_gives l.initial.f (flat_map (λ (slot : ShownSlot). 32 ∷ slot_text slot)
    (take l.slot-index l.slot-items)) l.f
