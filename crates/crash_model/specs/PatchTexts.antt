-- The words for a patch's part and operation, and for any line of a script.
use Rattle.std.specs.Prelude.{ℕ, List, codes}
use Rattle.crash_model.specs.declared.rules.Part.{Part}
use Rattle.crash_model.specs.declared.rules.Part.TheVariants as part
use Rattle.crash_model.specs.declared.separators.TheConstants.{SPACE}
use Rattle.crash_model.specs.Lists.{join_of}
use Rattle.crash_model.specs.Script.{words_of}
use Rattle.crash_model.specs.declared.operations.Op.{Op}
use Rattle.crash_model.specs.declared.steps.Act.{Act}
use Rattle.crash_model.specs.declared.steps.Act.TheVariants.{Do}
use Rattle.crash_model.specs.Rules.{role_text}

abbrev pub part_text : Part → List ℕ
part_text (part.InPlace role) = role_text role
part_text part.FileData = codes "FileData"
part_text part.NewData = codes "NewData"
part_text part.Copy = codes "Copy"
part_text part.Commit = codes "Commit"
part_text part.Done = codes "Done"

-- the words of an operation's line
abbrev pub op_text : Op → List ℕ
op_text op = join_of SPACE (words_of (Do op))

-- the words of an act's line
abbrev pub act_text : Act → List ℕ
act_text act = join_of SPACE (words_of act)
