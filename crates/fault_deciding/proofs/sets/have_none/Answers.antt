use Rattle.std.specs.Prelude.{bit_and}
use Rattle.known_bytes.proofs.Undecided.{and_both}
use Rattle.fault_deciding.proofs.SetQuestions.{asked_of, one_held, none_there}
use Rattle.fault_deciding.proofs.sets.have_none.Goals as goal

pub returns-in-Some : goal.returns-in-Some
returns-in-Some c = λ f are. one_held f c.args.held c.args.undecided are c.args.ids _ c.in-Some.ensures.found

pub returns-in-Some-lowest : goal.returns-in-Some-lowest
returns-in-Some-lowest c = λ f are. asked_of f c.args.held c.args.undecided are (bit_and c.args.undecided c.args.ids)
    c.in-Some-lowest.id (λ id is. ((and_both c.args.undecided c.args.ids id).0 is).0) c.in-Some-lowest.ensures.found

pub returns-in-None : goal.returns-in-None
returns-in-None c = λ f are. none_there f c.args.held c.args.undecided are c.args.ids c.in_default.ensures.found
    c.in-None.ensures.found
