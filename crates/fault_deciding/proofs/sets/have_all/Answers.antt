use Rattle.std.proofs.Common.{sym, ◌∙◌}
use Rattle.std.proofs.lemmas.Bool.{false≢true}
use Rattle.fault_deciding.proofs.SetQuestions.{asked_of, all_held, one_missing}
use Rattle.fault_deciding.proofs.sets.have_all.Goals as goal

pub returns-then-not-is_subset : goal.returns-then-not-is_subset
returns-then-not-is_subset c = λ f are. one_missing f c.args.held c.args.undecided are c.args.ids
    c.difference-missing.result c.difference-missing.ensures
    (λ within. false≢true (sym c.if-not-is_subset.true ∙ c.is_subset.ensures.1 within))

pub returns-in-Some : goal.returns-in-Some
returns-in-Some c = λ f are. asked_of f c.args.held c.args.undecided are c.difference-missing.result c.in-Some.id
    (c.is_subset.ensures.0 c.if-not-is_subset.false) c.in-Some.ensures.found

pub returns-in-None : goal.returns-in-None
returns-in-None c = λ f are. all_held f c.args.held c.args.undecided are c.args.ids c.difference-missing.result
    c.difference-missing.ensures c.in-None.ensures.found
