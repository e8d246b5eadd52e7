use Rattle.fault_deciding.proofs.SetQuestions.{small_held}
use Rattle.fault_deciding.proofs.sets.any_open.Goals as goal

pub returns-in-None : goal.returns-in-None
returns-in-None c = λ f held number are less. small_held f held c.args.undecided are number less c.in-None.ensures.found
