-- What words and lines say, and why they are refused.
use Rattle.std.specs.Prelude.{◌≡◌, ◌≢◌, ℕ, List, [], ◌∷◌, codes, Option, Some, None, IsUtf8}
use Rattle.crash_model.specs.Script.{Operand, said, IsAct, words_of, Reads, IsSkipped}
use Rattle.crash_model.specs.ScriptRefusals.{Fits, HasPaths, HasBadSlot, HasForm, IsBadPath}
use Rattle.crash_model.specs.Script as script
use Rattle.crash_model.specs.declared.names.Path.{Path}
use Rattle.crash_model.specs.declared.operations.Op.TheVariants as operations
use Rattle.crash_model.specs.declared.refusals.ScriptFault.{ScriptFault}
use Rattle.crash_model.specs.declared.refusals.ScriptFault.TheVariants as S
use Rattle.crash_model.specs.declared.steps.Target.TheVariants.{Root}
use Rattle.crash_model.specs.declared.steps.Act.{Act}
use Rattle.crash_model.specs.declared.steps.Act.TheVariants as acts
use Rattle.script_text.specs.declared.line.Line.{Line}
use Rattle.script_text.specs.declared.line.Line.TheVariants.{Skipped, Start, Says}
use Rattle.script_text.specs.declared.verb.Verb.{Verb}
use Rattle.script_text.specs.declared.verb.Verb.TheVariants.{Create, Write, Link, Unlink, Rename, Mkdir, Rmdir}
use Rattle.script_text.specs.declared.verb.Verb.TheVariants.{Overwrite, Truncate, Replace, Group, End, Depend}
use Rattle.script_text.specs.declared.verb.Verb.TheVariants.{Sync, Fsync, Keep, Hold, Spare}
use Rattle.script_text.specs.declared.verb.Verb.TheVariants as verb
use Rattle.script_text.specs.declared.line.LineFault.{LineFault}
use Rattle.script_text.specs.declared.line.LineFault.TheVariants.{BadUtf8, BadLine, BadPath}

-- the words for these operands are refused
abbrev pub IsOperandFault : List Operand → List (List ℕ) → LineFault → Type 0
IsOperandFault operands words BadUtf8 = ⊥
IsOperandFault operands words BadLine = Fits operands words → HasBadSlot operands words
IsOperandFault operands words BadPath = Fits operands words × (¬ (HasPaths operands words))

-- ---- words

abbrev pub SaysWords : List (List ℕ) → Line → Type 0
SaysWords words Skipped = ⊥
SaysWords words Start = words ≡ codes "start" ∷ []
SaysWords words (Says act) = IsAct act × (words ≡ words_of act)

-- a path for a form, in which no path matters
abbrev pub anywhere : Path
anywhere = record { through = record { items = [] }; last = [] }

-- an act that has the verb; the start line says none
abbrev pub some_act : Verb → Option Act
some_act Create = Some (acts.Do (operations.Create anywhere))
some_act Write = Some (acts.Do (operations.Write anywhere))
some_act Link = Some (acts.Do (operations.Link anywhere anywhere))
some_act Unlink = Some (acts.Do (operations.Unlink anywhere))
some_act Rename = Some (acts.Do (operations.Rename anywhere anywhere))
some_act Mkdir = Some (acts.Do (operations.Mkdir anywhere))
some_act Rmdir = Some (acts.Do (operations.Rmdir anywhere))
some_act Overwrite = Some (acts.Do (operations.Overwrite anywhere None))
some_act Truncate = Some (acts.Do (operations.Truncate anywhere))
some_act Replace = Some (acts.Do (operations.Replace anywhere anywhere))
some_act Group = Some (acts.Group [])
some_act End = Some acts.End
some_act Depend = Some (acts.Depend [] [])
some_act Sync = Some acts.Sync
some_act Fsync = Some (acts.Fsync Root)
some_act Keep = Some (acts.Keep (record { items = [] }))
some_act Hold = Some (acts.Hold anywhere)
some_act Spare = Some (acts.Spare anywhere anywhere)
some_act verb.Start = None

-- the first word and the operands of that act, or of the start line
abbrev pub form : Option Act → List ℕ × List Operand
form (Some act) = said act
form None = (codes "start", [])

-- the spelling of a first word, and what follows it
abbrev pub spelling : Verb → List ℕ
spelling verb = (form (some_act verb)).0

abbrev pub operands_of : Verb → List Operand
operands_of verb = (form (some_act verb)).1

abbrev pub IsNoVerb : List ℕ → Type 0
IsNoVerb word = (verb : Verb) → word ≡ spelling verb → ⊥

-- ---- lines

abbrev pub SaysLine : List ℕ → Line → Type 0
SaysLine line Skipped = Reads line script.Skipped
SaysLine line Start = Reads line script.Start
SaysLine line (Says act) = Reads line (script.Says act)

abbrev pub IsLineFault : List ℕ → LineFault → Type 0
IsLineFault line BadUtf8 = ¬ (IsUtf8 line)
IsLineFault line BadLine =
    IsUtf8 line × (¬ (IsSkipped line)) × (line ≢ codes "start")
    × ((like : Act) (words : List (List ℕ)) → HasForm line like words → HasBadSlot (said like).1 words)
IsLineFault line BadPath = IsBadPath line

abbrev pub line_fault : ℕ → LineFault → ScriptFault
line_fault n BadUtf8 = S.BadUtf8 n
line_fault n BadLine = S.BadLine n
line_fault n BadPath = S.BadPath n
