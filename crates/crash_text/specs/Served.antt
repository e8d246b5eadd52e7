-- What a sink has taken after a script was served.
use Rattle.std.specs.Prelude.{◌≡◌, ◌≢◌, ℕ, ◌++◌, List, Option, Some, None}
use Rattle.std.specs.Io.KnownBytes.{Appends}
use Rattle.crash_model.specs.declared.refusals.RunFault.{RunFault}
use Rattle.crash_model.specs.declared.refusals.RunFault.TheVariants.{CannotRead, CannotWrite, ScriptTooLong}
use Rattle.crash_model.specs.declared.refusals.RunFault.TheVariants.{OutOfMemory}
use Rattle.question_model.specs.declared.question.Request.{Request}
use Rattle.report.specs.Answers.{IsAnswerTo, Refused, Reported}

-- all bytes that were still to come, where those are known
abbrev pub IsWhole : Option (List ℕ) → List ℕ → Type 0
IsWhole None bytes = Unit {0}
IsWhole (Some all) bytes = bytes ≡ all

-- the whole report on the source's bytes
pub record IsServed (coming : Option (List ℕ)) (request : Request) (number : ℕ)
    (before after : Option (List ℕ)) : Type 0 where
  pub bytes : List ℕ
  pub read : IsWhole coming bytes
  pub text : List ℕ
  pub answer : IsAnswerTo request.question bytes request.settings (Reported text number)
  pub taken : Appends before after text

-- a beginning of it
pub record IsCut (coming : Option (List ℕ)) (request : Request) (before after : Option (List ℕ)) : Type 0 where
  pub bytes : List ℕ
  pub read : IsWhole coming bytes
  pub front : List ℕ
  pub rest : List ℕ
  pub number : ℕ
  pub answer : IsAnswerTo request.question bytes request.settings (Reported (front ++ rest) number)
  pub taken : Appends before after front

-- a refusal that is not a device's, nor of a script too long, nor out of memory, is the answer on the source's bytes
abbrev pub IsRefusedBy : Option (List ℕ) → Request → RunFault → Type 0
IsRefusedBy coming request fault =
    (fault ≢ CannotRead) → (fault ≢ CannotWrite) → (fault ≢ ScriptTooLong) → (fault ≢ OutOfMemory)
    → (bytes : List ℕ) × IsWhole coming bytes
    × IsAnswerTo request.question bytes request.settings (Refused fault)
