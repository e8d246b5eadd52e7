-- Which line of a script is refused first, and as what.
use Rattle.std.specs.Prelude.{◌≡◌, ◌≢◌, ℕ, ◌+◌, ◌<◌, ◌≤◌, ◌⊎◌, List, [], ◌∷◌, ◌++◌, length, codes, IsUtf8, Some}
use Rattle.std.specs.Prelude.{slice_get, All, Contains}
use Rattle.crash_model.specs.declared.separators.TheConstants.{SPACE}
use Rattle.crash_model.specs.Lists.{join_of}
use Rattle.crash_model.specs.Names.{IsGroupName}
use Rattle.crash_model.specs.Slots.{IsSlotWord}
use Rattle.crash_model.specs.declared.refusals.ScriptFault.{ScriptFault}
use Rattle.crash_model.specs.declared.refusals.ScriptFault.TheVariants.{BadUtf8, BadLine, BadPath, NoStart, OutOfMemory}
use Rattle.crash_model.specs.declared.promises.TheConstants.{MOST_PATHS}
use Rattle.crash_model.specs.declared.steps.Act.{Act}
use Rattle.crash_model.specs.PathTexts.{IsPathWord}
use Rattle.crash_model.specs.Targets.{IsTargetWord}
use Rattle.crash_model.specs.Script.{AreLines, Operand, PathOperand, TargetOperand, PathsOperand, GroupOperand}
use Rattle.crash_model.specs.Script.{SlotOperand, said, Line, IsSkipped, Reads}

-- the text is these words with a space between two
pub record AreWords (text : List ℕ) (words : List (List ℕ)) : Type 0 where
  pub plain : All (λ word. ¬ (Contains word SPACE)) words
  pub some : words ≢ []
  pub whole : text ≡ join_of SPACE words

-- a word for each operand, but for a slot at the end that is left out; no word empty, and names of groups where they
-- belong
abbrev pub Fits : List Operand → List (List ℕ) → Type 0
Fits [] [] = Unit {0}
Fits (PathOperand _ ∷ operands) (word ∷ words) = (word ≢ []) × Fits operands words
Fits (TargetOperand _ ∷ operands) (word ∷ words) = (word ≢ []) × Fits operands words
Fits (PathsOperand _ ∷ []) words = (0 < length words) × (length words ≤ MOST_PATHS) × All (λ word. word ≢ []) words
Fits (GroupOperand _ ∷ operands) (word ∷ words) = IsGroupName word × Fits operands words
Fits (SlotOperand _ ∷ []) [] = Unit {0}
Fits (SlotOperand _ ∷ operands) (word ∷ words) = (word ≢ []) × Fits operands words
Fits _ _ = ⊥

-- paths where they belong
abbrev pub HasPaths : List Operand → List (List ℕ) → Type 0
HasPaths (PathOperand _ ∷ operands) (word ∷ words) = IsPathWord word × HasPaths operands words
HasPaths (TargetOperand _ ∷ operands) (word ∷ words) = IsTargetWord word × HasPaths operands words
HasPaths (PathsOperand _ ∷ operands) words = All IsPathWord words
HasPaths (GroupOperand _ ∷ operands) (word ∷ words) = HasPaths operands words
HasPaths (SlotOperand _ ∷ operands) (word ∷ words) = HasPaths operands words
HasPaths _ _ = Unit {0}

-- slots where they belong
abbrev pub HasSlots : List Operand → List (List ℕ) → Type 0
HasSlots (SlotOperand _ ∷ operands) (word ∷ words) = IsSlotWord word × HasSlots operands words
HasSlots (_ ∷ operands) (word ∷ words) = HasSlots operands words
HasSlots _ _ = Unit {0}

-- paths where they belong, and a word in the place of a slot that is none
abbrev pub HasBadSlot : List Operand → List (List ℕ) → Type 0
HasBadSlot operands words = HasPaths operands words × (¬ (HasSlots operands words))

-- the line has an act's form, with these words in place of its operands
pub record HasForm (line : List ℕ) (like : Act) (words : List (List ℕ)) : Type 0 where
  pub cut : AreWords line ((said like).0 ∷ words)
  pub fits : Fits (said like).1 words

-- lines of which none is refused
pub record AreAccepted (lines : List (List ℕ)) : Type 0 where
  pub each : All (λ line. (says : Line) × Reads line says) lines
  pub one_start : (i j : ℕ) → slice_get lines i ≡ Some (codes "start") → slice_get lines j ≡ Some (codes "start")
      → i ≡ j

-- line n is the first that is refused, and it has the property, given the lines before it
pub record IsFirstRefused (bytes : List ℕ) (n : ℕ) (P : List (List ℕ) → List ℕ → Type 0) : Type 0 where
  pub before : List (List ℕ)
  pub line : List ℕ
  pub after : List (List ℕ)
  pub lines : AreLines bytes (before ++ line ∷ after)
  pub accepted : AreAccepted before
  pub number : n ≡ length before + 1
  pub refused : P before line

-- text that is not passed over, is no start line and has the form of no act, or a bad slot in the one that it has; or a
-- second start line
abbrev pub IsBadLine : List (List ℕ) → List ℕ → Type 0
IsBadLine before line =
    (IsUtf8 line × (¬ (IsSkipped line)) × (line ≢ codes "start")
    × ((like : Act) (words : List (List ℕ)) → HasForm line like words → HasBadSlot (said like).1 words))
    ⊎ ((line ≡ codes "start") × Contains before (codes "start"))

-- text of an act's form, in which a word is no path
abbrev pub IsBadPath : List ℕ → Type 0
IsBadPath line =
    IsUtf8 line × (¬ (IsSkipped line))
    × ((like : Act) × (words : List (List ℕ)) × HasForm line like words × (¬ (HasPaths (said like).1 words)))

abbrev pub IsScriptRefusal : List ℕ → ScriptFault → Type 0
IsScriptRefusal bytes (BadUtf8 n) = IsFirstRefused bytes n (λ _ line. ¬ (IsUtf8 line))
IsScriptRefusal bytes (BadLine n) = IsFirstRefused bytes n IsBadLine
IsScriptRefusal bytes (BadPath n) = IsFirstRefused bytes n (λ _ line. IsBadPath line)
IsScriptRefusal bytes (NoStart n) =
    (lines : List (List ℕ)) × AreLines bytes lines × AreAccepted lines × (¬ (Contains lines (codes "start")))
    × (n ≡ length lines + 1)
IsScriptRefusal bytes OutOfMemory = ⊥
