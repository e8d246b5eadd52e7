-- Undo data are those of patches in one way at most.
use Rattle.std.proofs.Common.{List, [], ◌∷◌}
use Rattle.std.specs.Coded.{coded_ℕ, coded_list}
use mathlib.Core.HLevel.{×_prop, Unit-prop}
use denote.Struct.Props.{≡_prop}
use Rattle.crash_model.specs.Disk.{Disk, with_bytes}
use Rattle.crash_model.specs.Patches.{AreUndo}
use Rattle.crash_model.specs.declared.patches.Patch.{Patch}

pub undo_prop : (base : Disk) (patches : List Patch) → IsProp (AreUndo base patches)
undo_prop base [] = Unit-prop
undo_prop base (p ∷ ps) = ×_prop (≡_prop (coded_list coded_ℕ) _ _)
    (undo_prop (with_bytes base p.block p.offset p.new.items) ps)
