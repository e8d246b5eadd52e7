-- Scripts: their lines, and what a line says.
use Rattle.std.specs.Prelude.{◌≡◌, ◌≢◌, ℕ, ◌+◌, ◌<◌, ◌≤◌, ◌⊎◌, List, [], ◌∷◌, ◌++◌, length, codes, IsUtf8, map}
use Rattle.std.specs.Prelude.{flat_map, All, Contains, Option, option_to_list}
use Rattle.crash_model.specs.declared.separators.TheConstants.{LINE_FEED, SPACE}
use Rattle.crash_model.specs.Lists.{join_of}
use Rattle.crash_model.specs.Names.{IsGroupName}
use Rattle.crash_model.specs.Slots.{slot_text}
use Rattle.crash_model.specs.declared.names.Path.{Path}
use Rattle.crash_model.specs.declared.operations.Op.TheVariants.{Create, Write, Link, Unlink, Rename, Mkdir, Rmdir}
use Rattle.crash_model.specs.declared.operations.Op.TheVariants.{Overwrite, Truncate, Replace}
use Rattle.crash_model.specs.declared.operations.Slot.{Slot}
use Rattle.crash_model.specs.declared.promises.TheConstants.{MOST_PATHS}
use Rattle.crash_model.specs.declared.steps.Target.{Target}
use Rattle.crash_model.specs.declared.steps.Act.{Act}
use Rattle.crash_model.specs.declared.steps.Act.TheVariants.{Do, Group, End, Depend, Sync, Fsync, Keep, Hold, Spare}
use Rattle.crash_model.specs.declared.steps.Step.{Step}
use Rattle.crash_model.specs.PathTexts.{path_text, IsPath}
use Rattle.crash_model.specs.Targets.{target_text, IsTarget}

-- ---- lines

-- no line has a line feed
abbrev pub ArePlain : List (List ℕ) → Type 0
ArePlain lines = All (λ line. ¬ (Contains line LINE_FEED)) lines

-- each line followed by a line feed
abbrev pub text_of_lines : List (List ℕ) → List ℕ
text_of_lines lines = flat_map (λ line. line ++ LINE_FEED ∷ []) lines

-- the bytes are these lines, each ended by a line feed; the last one may go without, but then it is not empty
pub record AreLines (bytes : List ℕ) (lines : List (List ℕ)) : Type 0 where
  pub plain : ArePlain lines
  pub whole : (bytes ≡ text_of_lines lines)
      ⊎ ((front : List (List ℕ)) × (last : List ℕ) × (last ≢ []) × (lines ≡ front ++ last ∷ [])
      × (bytes ≡ text_of_lines front ++ last))

-- ---- words

-- what follows a line's first word: a path, a path or the root directory, one to four paths, the name of a group, or a
-- slot, which may be left out
pub data Operand : Type 0 where
  PathOperand : Path → Operand
  TargetOperand : Target → Operand
  PathsOperand : List Path → Operand
  GroupOperand : List ℕ → Operand
  SlotOperand : Option Slot → Operand

-- the line of an act: its first word, and its operands
abbrev pub said : Act → List ℕ × List Operand
said (Do (Create p)) = (codes "create", PathOperand p ∷ [])
said (Do (Write p)) = (codes "write", PathOperand p ∷ [])
said (Do (Link p q)) = (codes "link", PathOperand p ∷ PathOperand q ∷ [])
said (Do (Unlink p)) = (codes "unlink", PathOperand p ∷ [])
said (Do (Rename p q)) = (codes "rename", PathOperand p ∷ PathOperand q ∷ [])
said (Do (Mkdir p)) = (codes "mkdir", PathOperand p ∷ [])
said (Do (Rmdir p)) = (codes "rmdir", PathOperand p ∷ [])
said (Do (Overwrite p slot)) = (codes "overwrite", PathOperand p ∷ SlotOperand slot ∷ [])
said (Do (Truncate p)) = (codes "truncate", PathOperand p ∷ [])
said (Do (Replace p q)) = (codes "replace", PathOperand p ∷ PathOperand q ∷ [])
said (Group a) = (codes "group", GroupOperand a ∷ [])
said End = (codes "end", [])
said (Depend b a) = (codes "depend", GroupOperand b ∷ GroupOperand a ∷ [])
said Sync = (codes "sync", [])
said (Fsync target) = (codes "fsync", TargetOperand target ∷ [])
said (Keep paths) = (codes "keep", PathsOperand paths.items ∷ [])
said (Hold path) = (codes "hold", PathOperand path ∷ [])
said (Spare p q) = (codes "spare", PathOperand p ∷ PathOperand q ∷ [])

-- its words: those of paths, or none for a slot that is left out
abbrev pub operand_words : Operand → List (List ℕ)
operand_words (PathOperand path) = path_text path ∷ []
operand_words (TargetOperand target) = target_text target ∷ []
operand_words (PathsOperand paths) = map path_text paths
operand_words (GroupOperand name) = name ∷ []
operand_words (SlotOperand slot) = map slot_text (option_to_list slot)

abbrev pub words_of : Act → List (List ℕ)
words_of act = (said act).0 ∷ flat_map operand_words (said act).1

-- paths and names of groups as they must be
abbrev pub AreLawful : List Operand → Type 0
AreLawful [] = Unit {0}
AreLawful (PathOperand path ∷ operands) = IsPath path × AreLawful operands
AreLawful (TargetOperand target ∷ operands) = IsTarget target × AreLawful operands
AreLawful (PathsOperand paths ∷ operands) =
    (0 < length paths) × (length paths ≤ MOST_PATHS) × All IsPath paths × AreLawful operands
AreLawful (GroupOperand name ∷ operands) = IsGroupName name × AreLawful operands
AreLawful (SlotOperand slot ∷ operands) = AreLawful operands

abbrev pub IsAct : Act → Type 0
IsAct act = AreLawful (said act).1

-- ---- what a line says

-- passed over; the start line; an act
pub data Line : Type 0 where
  Skipped : Line
  Start : Line
  Says : Act → Line

-- empty, or text that begins with #
abbrev pub IsSkipped : List ℕ → Type 0
IsSkipped line = (line ≡ []) ⊎ (IsUtf8 line × ((rest : List ℕ) × (line ≡ 35 ∷ rest)))

abbrev pub Reads : List ℕ → Line → Type 0
Reads line Skipped = IsSkipped line
Reads line Start = line ≡ codes "start"
Reads line (Says act) = IsAct act × (line ≡ join_of SPACE (words_of act))

-- ---- scripts

-- the acts of lines from number n on, of which none is the start line
abbrev pub AreSteps : ℕ → List (List ℕ) → List Step → Type 0
AreSteps n [] steps = steps ≡ []
AreSteps n (line ∷ lines) steps =
    (Reads line Skipped × AreSteps (n + 1) lines steps)
    ⊎ ((act : Act) × (rest : List Step) × Reads line (Says act) × AreSteps (n + 1) lines rest
    × (steps ≡ record { line = n; act = act } ∷ rest))

-- lines for the base, the start line, and lines that are traced
pub record IsScript (bytes : List ℕ) (base traced : List Step) : Type 0 where
  pub before : List (List ℕ)
  pub after : List (List ℕ)
  pub lines : AreLines bytes (before ++ codes "start" ∷ after)
  pub base_steps : AreSteps 1 before base
  pub traced_steps : AreSteps (length before + 2) after traced
