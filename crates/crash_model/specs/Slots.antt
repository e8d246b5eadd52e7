-- Slots of an inode, as scripts write them.
use Rattle.std.specs.Prelude.{◌≡◌, ℕ, List, codes}
use Rattle.crash_model.specs.declared.operations.Slot.{Slot}
use Rattle.crash_model.specs.declared.operations.Slot.TheVariants.{Zero, One, Two, Three}

abbrev pub slot_number : Slot → ℕ
slot_number Zero = 0
slot_number One = 1
slot_number Two = 2
slot_number Three = 3

abbrev pub slot_text : Slot → List ℕ
slot_text Zero = codes "0"
slot_text One = codes "1"
slot_text Two = codes "2"
slot_text Three = codes "3"

abbrev pub IsSlotWord : List ℕ → Type 0
IsSlotWord word = (slot : Slot) × (word ≡ slot_text slot)
