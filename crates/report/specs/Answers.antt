-- The answer to a question, from a script's bytes and the settings. No worker and no order of discovery is in it.
use Rattle.std.specs.Prelude.{ℕ, List}
use Rattle.crash_model.specs.declared.refusals.RunFault.{RunFault}
use Rattle.crash_model.specs.declared.settings.Settings.{Settings}
use Rattle.question_model.specs.LinesRefusal.{IsLinesRefusal}
use Rattle.question_model.specs.Refusals.{IsUntraced, IsSetsRefusal}
use Rattle.question_model.specs.Reported.{IsReported}
use Rattle.question_model.specs.SearchRefusal.{IsSearchRefusal}
use Rattle.question_model.specs.declared.question.Question.{Question}
use Rattle.question_model.specs.declared.question.Question.TheVariants.{FailingSets, Decide, Enough}
use Rattle.question_model.specs.declared.question.Question.TheVariants.{EnoughLines, Search, SearchRules}
use Rattle.report.specs.OnGraphs.{IsReport}
use Rattle.report.specs.Decisions.{IsDecision}
use Rattle.report.specs.OnChoices.{IsEnoughReport, IsLinesReport}
use Rattle.report.specs.OnPools.{IsReportedOfPool, IsSearchReport, IsSearchRulesReport}

-- a refusal, or a report and the number of failing sets
pub data Answer : Type 0 where
  Refused : RunFault → Answer
  Reported : List ℕ → ℕ → Answer

abbrev pub IsAnswerTo : Question → List ℕ → Settings → Answer → Type 0
IsAnswerTo (FailingSets limit) bytes settings (Refused fault) = IsSetsRefusal limit bytes settings fault
IsAnswerTo (FailingSets limit) bytes settings (Reported text number) =
    IsReported (IsReport settings limit) bytes settings text number
IsAnswerTo Decide bytes settings (Refused fault) = IsUntraced bytes settings fault
IsAnswerTo Decide bytes settings (Reported text number) =
    IsReported (IsDecision settings) bytes settings text number
IsAnswerTo Enough bytes settings (Refused fault) = IsUntraced bytes settings fault
IsAnswerTo Enough bytes settings (Reported text number) =
    IsReported (IsEnoughReport settings) bytes settings text number
IsAnswerTo EnoughLines bytes settings (Refused fault) = IsLinesRefusal bytes settings fault
IsAnswerTo EnoughLines bytes settings (Reported text number) =
    IsReported (IsLinesReport settings) bytes settings text number
IsAnswerTo (Search length) bytes settings (Refused fault) = IsSearchRefusal bytes settings fault
IsAnswerTo (Search length) bytes settings (Reported text number) =
    IsReportedOfPool (IsSearchReport settings length) bytes settings text number
IsAnswerTo (SearchRules length) bytes settings (Refused fault) = IsSearchRefusal bytes settings fault
IsAnswerTo (SearchRules length) bytes settings (Reported text number) =
    IsReportedOfPool (IsSearchRulesReport settings length) bytes settings text number
