use Rattle.std.proofs.Common.{rules, List, ◌∷◌, ◌++◌, codes, sym, ap, ◌∙◌}
use Rattle.std.proofs.Output.{has_written_of_eq}
use Rattle.std.proofs.lemmas.List.{length-take-le}
use Rattle.std.specs.List.{flat_map}
use Rattle.crash_model.specs.ShownTexts.{slot_text, shown_text}
use Rattle.crash_model.specs.declared.showing.ShownSlot.{ShownSlot}
use Rattle.crash_model.proofs.showing.ShownDisplay.fmt.Goals as goal

pub slice_bounds-slots-end : goal.slice_bounds-slots-end
slice_bounds-slots-end g c = c.listed.ensures.within

pub slice_bounds-words-end : goal.slice_bounds-words-end
slice_bounds-words-end g c = sym (length-take-le c.listed.result c.in-File.slots c.listed.ensures.within)

pub returns-in-File-clause-writes : goal.returns-in-File-clause-writes
returns-in-File-clause-writes g c plain ok =
    has_written_of_eq _ _ _ _ _
    (ap (λ (slots : List ShownSlot). codes "file" ++ flat_map (λ (slot : ShownSlot). 32 ∷ slot_text slot) slots)
    c.listed.ensures.listed ∙ sym (ap shown_text c.in-File.is))
    (search rules)
