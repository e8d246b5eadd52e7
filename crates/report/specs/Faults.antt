-- What a report says of a fault.
use Rattle.std.specs.Prelude.{ℕ, List, ◌++◌, codes}
use Rattle.report.specs.Texts.{line}
use Rattle.report.specs.Explained.{shows_if}
use Rattle.report.specs.declared.found.FoundFault.{FoundFault}
use Rattle.crash_model.specs.Texts.{fault_text}

abbrev pub found_text : FoundFault → List ℕ
found_text f = line (codes "fault " ++ fault_text f.fault) ++ shows_if f.shows
