use Rattle.question_laws.proofs.EachQuestion.{each_one}
use Rattle.question_laws.proofs.laws.no_question_has_two_answers.Goals as goal

pub returns : goal.returns
returns c = each_one
