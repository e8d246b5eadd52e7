-- What crashes are made from.
use Rattle.std.specs.Prelude.{List, ◌<◌}
use Rattle.std.specs.List.{All}
use Rattle.crash_model.specs.Disk.{Disk}
use Rattle.crash_model.specs.declared.patches.Patch.{Patch}
use Rattle.report.specs.Made.{Detail}
use Rattle.crash_model.specs.Patches.{AreUndo}

-- a base and the patches of a graph over it, and what is reported of a set
pub record Making : Type 0 where
  pub base : Disk
  pub patches : List Patch
  pub detail : Detail

-- the patches change blocks of the base, and their undo data are the bytes that they replace there
pub record AreOnBase (base : Disk) (patches : List Patch) : Type 0 where
  pub fits : All (λ patch. patch.block < base.blocks) patches
  pub undo : AreUndo base patches
