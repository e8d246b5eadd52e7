-- Each question has at most one answer.
use Rattle.std.proofs.Common.{◌≡◌, ℕ, List}
use Rattle.report.specs.Answers.{Answer}
use Rattle.crash_model.specs.declared.settings.Settings.{Settings}
use Rattle.report.specs.Answers.{IsAnswerTo}
use Rattle.report.specs.Decisions.{IsDecision}
use Rattle.report.specs.OnChoices.{IsEnoughReport}
use Rattle.report.specs.OnPools.{IsSearchReport}
use Rattle.report.specs.OnPools.{IsSearchRulesReport}
use Rattle.question_model.specs.declared.question.Question.{Question}
use Rattle.question_model.specs.declared.question.Question.TheVariants.{FailingSets, Decide, Enough, EnoughLines}
use Rattle.question_model.specs.declared.question.Question.TheVariants.{Search, SearchRules}
use Rattle.question_laws.proofs.OneAnswer.{answer_one}
use Rattle.question_laws.proofs.LinesAnswer.{one_lines_answer}
use Rattle.question_laws.proofs.OneDecision.{decision_one}
use Rattle.question_laws.proofs.OneEnough.{enough_one}
use Rattle.question_laws.proofs.OnePool.{pool_answered_one}
use Rattle.question_laws.proofs.OneSearch.{search_one, search_rules_one}
use Rattle.question_laws.proofs.OneStart.{answered_one}

pub each_one : (question : Question) (bytes : List ℕ) (settings : Settings) (answer other : Answer)
    → IsAnswerTo question bytes settings answer → IsAnswerTo question bytes settings other → answer ≡ other
each_one (FailingSets limit) bytes settings answer other is also =
    answer_one settings limit bytes answer other is also
each_one Decide bytes settings answer other is also =
    answered_one bytes settings (IsDecision settings) (decision_one settings) answer other is also
each_one Enough bytes settings answer other is also =
    answered_one bytes settings (IsEnoughReport settings) (enough_one settings) answer other is also
each_one EnoughLines bytes settings answer other is also = one_lines_answer bytes settings answer other is also
each_one (Search longest) bytes settings answer other is also =
    pool_answered_one bytes settings (IsSearchReport settings longest)
    (search_one settings longest) answer other is also
each_one (SearchRules longest) bytes settings answer other is also =
    pool_answered_one bytes settings (IsSearchRulesReport settings longest)
    (search_rules_one settings longest) answer other is also
