-- What an fsync forces, once the last operation is found that has contents among it.
use Rattle.std.specs.Prelude.{ℕ, List, Bool, true, false, ◌&&◌, ◌||◌, ◌==◌}
use Rattle.crash_model.specs.Emitted.{Emitted}
use Rattle.crash_model.specs.Waiting.{meets, is_file_data_patch, is_commit, is_of_contents}
use Rattle.crash_model.specs.declared.modules.Module.{Module}
use Rattle.crash_model.specs.declared.modules.Module.TheVariants.{Async, Soft}
use Rattle.crash_model.specs.declared.ranges.Range.{Range}
use Rattle.crash_model.specs.declared.rules.Part.{Part}
use Rattle.crash_model.specs.declared.rules.Part.TheVariants.{InPlace, FileData, NewData, Commit}

-- ---- by the part alone

abbrev pub is_data_part : Part → Bool
is_data_part part = elim part [ FileData ↦ true | NewData ↦ true | _ ↦ false ]

abbrev pub is_commit_part : Part → Bool
is_commit_part part = elim part [ Commit ↦ true | _ ↦ false ]

abbrev pub is_contents_part : Part → Bool
is_contents_part part = elim part [ InPlace _ ↦ true | FileData ↦ true | NewData ↦ true | _ ↦ false ]

-- ---- by the last operation

-- file data, or a change in place, that meets the ranges
abbrev pub has_contents : List Range → Emitted → Bool
has_contents ranges p = is_of_contents p && meets ranges p

-- file data that meet the ranges, and the commit of that operation
abbrev pub is_met_data : List Range → Emitted → Bool
is_met_data ranges p = is_file_data_patch p && meets ranges p

abbrev pub is_commit_of : ℕ → Emitted → Bool
is_commit_of last p = is_commit p && p.op_number == last

-- the patch is forced, where that operation is the last one
abbrev pub forces_with : Module → List Range → ℕ → Emitted → Bool
forces_with Async ranges last p = meets ranges p
forces_with Soft ranges last p = meets ranges p
forces_with _ ranges last p = is_met_data ranges p || is_commit_of last p
