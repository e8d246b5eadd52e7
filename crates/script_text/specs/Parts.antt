-- Lines up to a start line.
use Rattle.std.specs.Prelude.{◌≡◌, ℕ, ◌+◌, List, ◌∷◌, ◌++◌, length, codes, Option, MatchOption}
use Rattle.crash_model.specs.Script.{AreSteps}
use Rattle.crash_model.specs.declared.refusals.ScriptFault.{ScriptFault}
use Rattle.crash_model.specs.declared.steps.Step.{Step}
use Rattle.script_text.specs.declared.line.LineFault.{LineFault}
use Rattle.script_text.specs.Lines.{lines_of}
use Rattle.script_text.specs.Words.{IsLineFault, line_fault}
use denote.Ref.{Bor}

-- lines from number `first` on that say these steps, up to a start line with number n and bytes after it, or up to the
-- end
pub record IsPart (bytes : List ℕ) (first : ℕ) (steps : List Step) (n : ℕ)
    (after : Option (Bor (List ℕ))) : Type 0 where
  pub before : List (List ℕ)
  pub says : AreSteps first before steps
  pub number : n ≡ first + length before
  pub lines : MatchOption after (lines_of bytes ≡ before)
      (λ rest. lines_of bytes ≡ before ++ (codes "start" ∷ lines_of rest.now))

-- the first refused line, before which there is no start line
pub record IsPartRefused (bytes : List ℕ) (first : ℕ) (fault : ScriptFault) : Type 0 where
  pub before : List (List ℕ)
  pub line : List ℕ
  pub after : List (List ℕ)
  pub steps : List Step
  pub why : LineFault
  pub lines : lines_of bytes ≡ before ++ (line ∷ after)
  pub says : AreSteps first before steps
  pub refused : IsLineFault line why
  pub number : fault ≡ line_fault (first + length before) why
