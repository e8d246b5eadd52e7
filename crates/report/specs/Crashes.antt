-- What a report says of a crash.
use Rattle.std.specs.Prelude.{ℕ, List, ◌++◌, codes, decimal}
use Rattle.std.specs.List.{flat_map}
use Rattle.report.specs.Texts.{line, ids_text}
use Rattle.report.specs.Parts.{Crash, Section}
use Rattle.report.specs.Explained.{replayed_text}
use Rattle.patch_sets.specs.declared.write.BlockWrite.{BlockWrite}
use Rattle.report.specs.Faults.{found_text}

abbrev pub write_text : BlockWrite → List ℕ
write_text w = line (codes "write block " ++ decimal w.block ++ codes ":" ++ ids_text w.ids)

abbrev pub crash_text : Crash → List ℕ
crash_text c =
    line (codes "set" ++ ids_text c.set) ++ flat_map write_text c.writes ++ flat_map replayed_text c.replay

abbrev pub section_text : Section → List ℕ
section_text s = crash_text s.crash ++ flat_map found_text s.faults
