use Rattle.std.proofs.Common.{arith}
use Rattle.fault_deciding.proofs.SetQuestions.{large_all, small_all}
use Rattle.fault_deciding.proofs.sets.are_at_least.Goals as goal

pub returns-then-number-held : goal.returns-then-number-held
returns-then-number-held c = λ f are. large_all f c.args.held c.args.undecided are c.args.number c.if-number-held.true

pub returns-then-held-undecided : goal.returns-then-held-undecided
returns-then-held-undecided c = λ f are. small_all f c.args.held c.args.undecided are c.args.number
    c.if-held-undecided.true

pub returns-in-None : goal.returns-in-None
returns-in-None c = λ f are. c.any_open.ensures f c.args.held c.args.number are (omega arith)
