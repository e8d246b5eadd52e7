-- The words for what paths show.
use Rattle.std.specs.Prelude.{ℕ, List, [], ◌∷◌, ◌++◌, flat_map, codes, Bool, true, false}
use Rattle.hex.specs.Hex.{encode_lower}
use Rattle.crash_model.specs.declared.showing.ShownSlot.{ShownSlot}
use Rattle.crash_model.specs.declared.showing.ShownSlot.TheVariants.{Hole, Wild, Begins}
use Rattle.crash_model.specs.declared.showing.Shown.{Shown}
use Rattle.crash_model.specs.declared.showing.Shown.TheVariants.{Nothing, Directory, File}

abbrev pub slot_text : ShownSlot → List ℕ
slot_text Hole = codes "-"
slot_text Wild = codes "wild"
slot_text (Begins bytes) = encode_lower bytes

abbrev pub is_hole : ShownSlot → Bool
is_hole Hole = true
is_hole _ = false

-- the slots up to the last that is not empty
abbrev pub listed_slots : List ShownSlot → List ShownSlot
listed_slots [] = []
listed_slots (Hole ∷ slots) = elim (listed_slots slots) [ [] ↦ [] | (s ∷ ss) ↦ Hole ∷ s ∷ ss ]
listed_slots (slot ∷ slots) = slot ∷ listed_slots slots

abbrev pub shown_text : Shown → List ℕ
shown_text Nothing = codes "nothing"
shown_text Directory = codes "directory"
shown_text (File slots) = codes "file" ++ flat_map (λ slot. codes " " ++ slot_text slot) (listed_slots slots)
